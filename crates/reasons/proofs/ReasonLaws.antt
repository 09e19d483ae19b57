-- What is wrong with a record, from what was put in: a field's place, and what is said of a code.
use mathlib.Core.Path.{◌≡◌, refl, sym, ap, ◌∙◌}
use mathlib.Core.Bool.{Bool, true, false, cond, ◌&&◌, ◌||◌, or-true}
use mathlib.Core.List.{List, [], ◌∷◌, ◌++◌}
use Prim.Native.Nat.{ℕ, zero, suc, ◌+◌, ◌-◌, ◌≤◌, ◌<◌}
use native.Mathlib.Omega.{arith}
use native.Mathlib.Nat.{add-sub_cancel_left}
use lib.Dec.{leb, ltb}
use lib.ListN.{length, get_or, take, drop, length-drop}
use lib.Seq.{length-take-le}
use borrow.Author.Tests.{leb-true, ne_eqb, lt-ltb, le-ltb}
use Rattle.columns.proofs.TextLaws.{and_split}
use Rattle.basics.specs.Fields.{place_of}
use Rattle.basics.specs.declared.Place.{Place}
use Rattle.fields.specs.Table.{station_table}
use Rattle.station.specs.Places.{station_places}
use Rattle.coordination_flaws.specs.Flaws.{record_flaw}
use Rattle.wording.specs.Words.{flaw_words}
use Rattle.reasons.specs.Reasons.{field_text, reason_text}

-- The places lie within the record, and none is wider than 50 columns: one computed test.
abbrev fine : ℕ × ℕ → Bool
fine p = leb 1 p.0 && (leb (p.0 + p.1) 220 && leb p.1 50)

abbrev all_fine : List (ℕ × ℕ) → Bool
all_fine [] = true
all_fine (p ∷ ps) = fine p && all_fine ps

each-fine : (ps : List (ℕ × ℕ)) → all_fine ps ≡ true → (i : ℕ) → i < length ps → fine (get_or ps i (0, 0)) ≡ true
each-fine [] e i h = absurd (omega arith)
each-fine (p ∷ ps) e zero h = (and_split (fine p) (all_fine ps) e).0
each-fine (p ∷ ps) e (suc i) h = each-fine ps (and_split (fine p) (all_fine ps) e).1 i (omega arith)

pub place_fine : (p : Place) (k : ℕ) → p ≡ place_of station_places k → 1 ≤ k → k ≤ 30 → (1 ≤ p.first) × (p.first + p.length ≤ 220) × (p.length ≤ 50)
unfolding place_of
place_fine p k e l h =
    let q = get_or station_places (k - 1) (0, 0) in
    let there : k - 1 < 30 = omega arith in
    let f = and_split (leb 1 q.0) (leb (q.0 + q.1) 220 && leb q.1 50) (each-fine station_places refl (k - 1) there) in
    let g = and_split (leb (q.0 + q.1) 220) (leb q.1 50) f.1 in
    let positive : 0 < k = l in
    rw (e, lt-ltb 0 k positive) (leb-true 1 q.0 f.0, leb-true (q.0 + q.1) 220 g.0, leb-true q.1 50 g.1)

-- A part of a record has its length, and is those bytes.
pub part_is : (r : List ℕ) (from len : ℕ) → take (from + len - from) (drop from r) ≡ take len (drop from r)
part_is r from len = rw (add-sub_cancel_left from len)

pub part_length : (r : List ℕ) (from len : ℕ) → from + len ≤ length r → length (take (from + len - from) (drop from r)) ≡ len
part_length r from len h = rw (add-sub_cancel_left from len) (length-take-le len (drop from r) (omega (arith, length-drop from r)))

-- A code that names no field is told by its flaw alone,
pub reason_none : (r : List ℕ) (c : ℕ) → c ≡ 0 → reason_text r c ≡ flaw_words (record_flaw r c)
unfolding reason_text
reason_none r c e = rw e

pub reason_above : (r : List ℕ) (c : ℕ) → 30 < c → reason_text r c ≡ flaw_words (record_flaw r c)
unfolding reason_text
reason_above r c h = let above : ltb (length station_table) c ≡ true = lt-ltb 30 c h in rw (above, or-true)

-- and one that names a field by that and the flaw.
pub reason_field : (r : List ℕ) (c : ℕ) → (c ≡ 0 → ⊥) → c ≤ 30 → reason_text r c ≡ field_text r c ++ flaw_words (record_flaw r c)
unfolding reason_text
reason_field r c n h = let within : ltb (length station_table) c ≡ false = le-ltb 30 c h in rw (ne_eqb c 0 n, within)
