-- A file whose record number k was replaced: as long as before, with the new record, and every other record as it was.
use mathlib.Core.Path.{◌≡◌, sym, ap, ◌∙◌}
use mathlib.Core.Logic.{⊎_elim, ◌⊎◌, inl, inr}
use mathlib.Core.List.{List, ◌++◌}
use Prim.Native.Nat.{ℕ, ◌+◌, ◌-◌, ◌*◌, ◌≤◌, ◌<◌}
use native.Mathlib.Nat.{eq-or-lt_of_le, lt_of_not-le}
use native.Mathlib.Decide.{dec_le}
use native.Mathlib.Omega.{arith}
use lib.ListN.{length, get_or, take, drop, length-append, length-drop, get_or-append}
use lib.Seq.{ext_get_or, get_or-take, get_or-drop, get_or-append-add, length-take-le, take_at, drop_at}
use Rattle.files.specs.Files.{stations, record_at, with_record}

-- one of two numbers that differ is below the other
apart : (a b : ℕ) → (a ≡ b → ⊥) → (a < b) ⊎ (b < a)
apart a b n = elim (dec_le a b) [ yes h ↦ ⊎_elim (λ e. absurd (n e)) (λ l. inl l) (eq-or-lt_of_le h) | no h ↦ inr (lt_of_not-le h) ]

module _ (file : List ℕ) (k : ℕ) (r : List ℕ) (fits : 219 * k + 219 ≤ length file) (size : length r ≡ 219) where
  front : length (take (219 * k) file) ≡ 219 * k
  front = length-take-le (219 * k) file (omega arith)

  pub replaced_length : length (with_record file k r) ≡ length file
  unfolding with_record
  replaced_length = rw (length-append, length-append, front, size, length-drop) (omega arith)

  -- as many stations as before
  pub replaced_stations : stations (with_record file k r) ≡ stations file
  unfolding stations
  replaced_stations = rw replaced_length

  -- the bytes before the record,
  before : (i : ℕ) → i < 219 * k → get_or (with_record file k r) i 0 ≡ get_or file i 0
  unfolding with_record
  before i h = get_or-append (take (219 * k) file) (r ++ drop (219 * k + 219) file) 0 i (rw front h) ∙ get_or-take (219 * k) file i 0 h

  -- and those after it
  after : (i : ℕ) → 219 * k + 219 ≤ i → get_or (with_record file k r) i 0 ≡ get_or file i 0
  unfolding with_record
  after i h =
      let d : ℕ = i - (219 * k + 219) in
      let rest : List ℕ = drop (219 * k + 219) file in
      let e : i ≡ length (take (219 * k) file) + (length r + d) = rw (front, size) (omega arith) in
      ap (λ (j : ℕ). get_or (take (219 * k) file ++ (r ++ rest)) j 0) e
      ∙ get_or-append-add (take (219 * k) file) (r ++ rest) (length r + d) 0
      ∙ get_or-append-add r rest d 0
      ∙ get_or-drop (219 * k + 219) file d 0
      ∙ ap (λ (j : ℕ). get_or file j 0) (omega arith)

  -- the record that was put in
  pub replaced_record : record_at (with_record file k r) k ≡ r
  unfolding record_at with_record
  replaced_record = rw (drop_at (take (219 * k) file) (r ++ drop (219 * k + 219) file) (219 * k) front) (take_at r (drop (219 * k + 219) file) 219 size)

  -- another record is as it was
  pub other_record : (j : ℕ) → (j ≡ k → ⊥) → 219 * j + 219 ≤ length file → record_at (with_record file k r) j ≡ record_at file j
  unfolding record_at
  other_record j ne l =
      let file' : List ℕ = with_record file k r in
      let wide' : length (take 219 (drop (219 * j) file')) ≡ 219 = length-take-le 219 (drop (219 * j) file') (rw (length-drop, replaced_length) (omega arith)) in
      let wide : length (take 219 (drop (219 * j) file)) ≡ 219 = length-take-le 219 (drop (219 * j) file) (rw length-drop (omega arith)) in
      ext_get_or 0 (take 219 (drop (219 * j) file')) (take 219 (drop (219 * j) file)) (wide' ∙ sym wide)
      (λ i b.
      let in-it : i < 219 = rw wide' at b in
      get_or-take 219 (drop (219 * j) file') i 0 in-it
      ∙ get_or-drop (219 * j) file' i 0
      ∙ ⊎_elim (λ lt. before (219 * j + i) (omega arith)) (λ gt. after (219 * j + i) (omega arith)) (apart j k ne)
      ∙ sym (get_or-take 219 (drop (219 * j) file) i 0 in-it ∙ get_or-drop (219 * j) file i 0))
