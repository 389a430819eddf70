-- What is read is what is written (02, T-07).
--     splits              every byte string is the entries read of it, as they are written, and a tail of the kind that is told
--     splits_only         and it reads as whatever splits it so
--     read-back           the entries of a record without a tail, written, are the record byte for byte
--     entries_read_back   every list of entries, written, reads as those entries and no tail
-- Assumes nothing.
use mathlib.Core.Logic.{◌⊎◌, inl, inr}
use mathlib.Core.Path.{◌≡◌, refl, ap, sym, ◌∙◌}
use mathlib.Core.List.{List, [], ◌∷◌, ◌++◌, append_assoc, append-nil}
use Prim.Native.Nat.{ℕ, zero, suc, ◌<◌}
use native.Mathlib.Omega.{arith}
use lib.ListN.{length, drop, length-append}
use lib.Seq.{drop-append_seam}
use Rattle.mode_a.specs.declared.Role.{Role}
use Rattle.mode_a.specs.declared.Role.TheVariants.{Master, Slave}
use Rattle.mode_a.specs.Station.{words}
use Rattle.entries.specs.declared.Entry.{Entry}
use Rattle.entries.specs.declared.Entry.TheVariants.{Burst, Text, Over, End}
use Rattle.entries.specs.Entries.{by_role, kind_of, body_of, written, written_all, Begun, entry, unknown, short, burst_of, text_to, entry_of, Rest, nothing, unknown_kind, cut_short, Record, followed_by, begun_by, read_past, record_of}
use Rattle.entries.specs.ReadBack.{Tail, ended, strange, cut, Splits}
use Rattle.entries.proofs.EntryLaws.{text_cut, kind_unknown}

-- What a kind and the bytes behind it begin: an entry as it is written, or one of the two tails.
pub data Begins (k : ℕ) (bs : List ℕ) : Begun → Type 0 where
  an_entry : (e : Entry) → k ∷ bs ≡ written e ++ drop (length (body_of e)) bs → Begins k bs (entry e)
  no_kind : Tail unknown_kind (k ∷ bs) → Begins k bs unknown
  no_body : Tail cut_short (k ∷ bs) → Begins k bs short

begins_burst : (r : Role) (bs : List ℕ) → Begins (by_role r 1 2) bs (burst_of r bs)
begins_burst r [] = no_body (cut _ [] (Burst r 0) 0 [] refl)
begins_burst r (d ∷ bs) = an_entry (Burst r d) refl

begins_text : (r : Role) (bs : List ℕ) → Begins (by_role r 3 4) bs (text_to r bs)
begins_text r [] = no_body (cut _ [] (Text r (words 0 0 0)) 0 (0 ∷ 0 ∷ []) refl)
begins_text r (a ∷ []) = no_body (cut _ (a ∷ []) (Text r (words a 0 0)) 0 (0 ∷ []) refl)
begins_text r (a ∷ b ∷ []) = no_body (cut _ (a ∷ b ∷ []) (Text r (words a b 0)) 0 [] refl)
begins_text r (a ∷ b ∷ c ∷ bs) = an_entry (Text r (words a b c)) refl

none_of_eight : (k : ℕ) → (k < 1) ⊎ (8 < k) → (bs : List ℕ) → entry_of k bs ≡ unknown
none_of_eight k (inl h) bs =
    kind_unknown k bs (λ e. omega arith) (λ e. omega arith) (λ e. omega arith) (λ e. omega arith) (λ e. omega arith) (λ e. omega arith) (λ e. omega arith) (λ e. omega arith)
none_of_eight k (inr h) bs =
    kind_unknown k bs (λ e. omega arith) (λ e. omega arith) (λ e. omega arith) (λ e. omega arith) (λ e. omega arith) (λ e. omega arith) (λ e. omega arith) (λ e. omega arith)

pub begins : (k : ℕ) (bs : List ℕ) → Begins k bs (entry_of k bs)
unfolding entry_of
begins zero bs = no_kind (strange 0 bs (inl (omega arith)))
begins (suc zero) bs = begins_burst Master bs
begins (suc (suc zero)) bs = begins_burst Slave bs
begins (suc (suc (suc zero))) bs = begins_text Master bs
begins (suc (suc (suc (suc zero)))) bs = begins_text Slave bs
begins (suc (suc (suc (suc (suc zero))))) bs = an_entry (Over Master) refl
begins (suc (suc (suc (suc (suc (suc zero)))))) bs = an_entry (Over Slave) refl
begins (suc (suc (suc (suc (suc (suc (suc zero))))))) bs = an_entry (End Master) refl
begins (suc (suc (suc (suc (suc (suc (suc (suc zero)))))))) bs = an_entry (End Slave) refl
begins (suc (suc (suc (suc (suc (suc (suc (suc (suc k))))))))) bs =
    let k9 = suc (suc (suc (suc (suc (suc (suc (suc (suc k)))))))) in
    let h : (k9 < 1) ⊎ (8 < k9) = inr (omega arith) in
    rw (none_of_eight k9 h bs) (no_kind (strange k9 bs h))

-- Bytes passed over: the record is read from behind them.
past : (n : ℕ) (bs : List ℕ) → read_past n bs ≡ record_of (drop n bs)
unfolding read_past
past zero bs = refl
past (suc n) [] = refl
past (suc n) (b ∷ bs) = past n bs

splits_begun : (k : ℕ) (bs : List ℕ) → ((n : ℕ) → Splits (drop n bs) (read_past n bs)) → {g : Begun} → Begins k bs g → Splits (k ∷ bs) (begun_by g (λ e. read_past (length (body_of e)) bs))
unfolding written_all
splits_begun k bs rest (an_entry e w) =
    let s = rest (length (body_of e)) in
    record {
      tail = s.tail;
      whole = w ∙ ap (λ (l : List ℕ). written e ++ l) s.whole ∙ sym (append_assoc (written e) (written_all (read_past (length (body_of e)) bs).entries) s.tail);
      left = s.left;
    }
splits_begun k bs rest (no_kind t) = record { tail = k ∷ bs; whole = refl; left = t }
splits_begun k bs rest (no_body t) = record { tail = k ∷ bs; whole = refl; left = t }

splits_past : (bs : List ℕ) (n : ℕ) → Splits (drop n bs) (read_past n bs)
unfolding read_past written_all
splits_past [] zero = record { tail = []; whole = refl; left = ended }
splits_past [] (suc n) = record { tail = []; whole = refl; left = ended }
splits_past (b ∷ bs) zero = splits_begun b bs (splits_past bs) (begins b bs)
splits_past (b ∷ bs) (suc n) = splits_past bs n

pub splits : (bytes : List ℕ) → Splits bytes (record_of bytes)
splits bytes = splits_past bytes 0

-- An entry that is written is read.
entry_written : (e : Entry) (more : List ℕ) → entry_of (kind_of e) (body_of e ++ more) ≡ entry e
unfolding entry_of
entry_written (Burst Master d) more = refl
entry_written (Burst Slave d) more = refl
entry_written (Text Master w) more = refl
entry_written (Text Slave w) more = refl
entry_written (Over Master) more = refl
entry_written (Over Slave) more = refl
entry_written (End Master) more = refl
entry_written (End Slave) more = refl

pub record_written : (e : Entry) (more : List ℕ) → record_of (written e ++ more) ≡ followed_by e (record_of more)
unfolding read_past
record_written e more =
    rw (entry_written e more, past (length (body_of e)) (body_of e ++ more), drop-append_seam (body_of e) more)

-- A tail reads as no entry, and as what it is.
burst_cut : (r : Role) (bs : List ℕ) → length bs < 1 → burst_of r bs ≡ short
burst_cut r [] h = refl
burst_cut r (b ∷ bs) h = absurd (omega arith)

body_cut : (e : Entry) (bs : List ℕ) → length bs < length (body_of e) → entry_of (kind_of e) bs ≡ short
unfolding entry_of
body_cut (Burst Master d) bs h = burst_cut Master bs h
body_cut (Burst Slave d) bs h = burst_cut Slave bs h
body_cut (Text Master w) bs h = text_cut Master bs h
body_cut (Text Slave w) bs h = text_cut Slave bs h
body_cut (Over r) bs h = absurd (omega arith)
body_cut (End r) bs h = absurd (omega arith)

pub tail_read : {r : Rest} {t : List ℕ} → Tail r t → record_of t ≡ record { entries = []; rest = r }
unfolding read_past
tail_read ended = refl
tail_read (strange k bs h) = rw (none_of_eight k h bs)
tail_read (cut k bs e m more w) =
    let kind : k ≡ kind_of e = cc in
    let body : bs ++ (m ∷ more) ≡ body_of e = cc in
    let long : length bs < length (body_of e) = omega (arith, simp length-append at (ap length body)) in
    rw (kind, body_cut e bs long)

splits_all : (es : List Entry) {r : Rest} {t : List ℕ} → Tail r t → record_of (written_all es ++ t) ≡ record { entries = es; rest = r }
unfolding written_all
splits_all [] left = tail_read left
splits_all (e ∷ es) {r} {t} left =
    rw (append_assoc (written e) (written_all es) t) (record_written e (written_all es ++ t) ∙ ap (followed_by e) (splits_all es left))

pub splits_only : (bytes : List ℕ) (r : Record) → Splits bytes r → record_of bytes ≡ r
splits_only bytes r s = rw s.whole (splits_all r.entries s.left)

nothing_left : {t : List ℕ} → Tail nothing t → t ≡ []
nothing_left ended = refl

pub read_back : (bytes : List ℕ) → (record_of bytes).rest ≡ nothing → written_all (record_of bytes).entries ≡ bytes
read_back bytes e =
    let s = splits bytes in
    sym (s.whole ∙ rw (nothing_left (rw e at s.left), append-nil))

pub entries_read_back : (es : List Entry) → record_of (written_all es) ≡ record { entries = es; rest = nothing }
entries_read_back es = rw (← append-nil (written_all es)) (splits_all es ended)
