-- How a program's two streams stand. Assumes nothing.
use Rattle.filters.specs.declared.Stream.{Stream}
use Rattle.filters.specs.declared.Streams.{Streams}

abbrev pub standing : Streams → Stream
standing streams = streams.stands
