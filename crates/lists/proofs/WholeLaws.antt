-- A whole list: it is taken apart where it was put together, and brings in the stations that went out.
use mathlib.Core.Path.{◌≡◌, refl, sym, ap, ◌∙◌}
use mathlib.Core.Bool.{Bool, true, false}
use mathlib.Core.List.{List, [], ◌∷◌, ◌++◌, append_assoc}
use Prim.Native.Nat.{ℕ, ◌≤◌}
use native.Mathlib.Omega.{arith}
use native.Mathlib.Nat.{zero-add}
use lib.ListN.{length}
use borrow.Author.Tests.{eq-eqb}
use Rattle.columns.specs.Texts.{how_many}
use Rattle.station.specs.Codes.{typed_code}
use Rattle.station.specs.Spelling.{spell_station}
use Rattle.station.specs.declared.Station.{Station}
use Rattle.semicolons.specs.Lines.{is_feed, line_of, last_byte, lines_from, lines_of}
use Rattle.basics.specs.Outcomes.{refusal, if_done}
use Rattle.lists.specs.Whole.{brought_in, records_of}
use Rattle.semicolons.proofs.LineLaws.{last_cons}
use Rattle.semicolons.proofs.CountLaws.{ends_counted}
use Rattle.lists.proofs.RoundTrip.{line-done, line_back}

-- a line feed that is last is the last of what stands behind the first byte
last_rest : (c d : ℕ) (t : List ℕ) → last_byte (c ∷ d ∷ t) ≡ 10 → last_byte (d ∷ t) ≡ 10
last_rest c d t e = sym (last_cons c (d ∷ t) (omega arith)) ∙ e

-- lines go on behind a text that ends with a line feed
lines_from_lem : (p a b : List ℕ) → 1 ≤ length a → last_byte a ≡ 10 → lines_from p (a ++ b) ≡ lines_from p a ++ lines_of b
unfolding lines_from
lines_from_lem p [] b n h = absurd (omega arith)
lines_from_lem p (c ∷ []) b n h = rw (eq-eqb c 10 h)
lines_from_lem p (c ∷ d ∷ t) b n h = by (lines_from_lem [] (d ∷ t) b (omega arith) (last_rest c d t h)) (lines_from_lem (p ++ (c ∷ [])) (d ∷ t) b (omega arith) (last_rest c d t h)) (is_feed c) refl where
  by : lines_from [] ((d ∷ t) ++ b) ≡ lines_from [] (d ∷ t) ++ lines_of b → lines_from (p ++ (c ∷ [])) ((d ∷ t) ++ b) ≡ lines_from (p ++ (c ∷ [])) (d ∷ t) ++ lines_of b
      → (e : Bool) → is_feed c ≡ e → lines_from p ((c ∷ d ∷ t) ++ b) ≡ lines_from p (c ∷ d ∷ t) ++ lines_of b
  by new on true z = rw z (ap (λ (ls : List (List ℕ)). (p ++ (c ∷ [])) ∷ ls) new)
  by new on false z = rw z on

-- A list that ends with a line feed is taken apart by itself, whatever stands behind it.
pub lines_append : (a b : List ℕ) → (1 ≤ length a → last_byte a ≡ 10) → lines_of (a ++ b) ≡ lines_of a ++ lines_of b
unfolding lines_from
lines_append [] b h = refl
lines_append (c ∷ t) b h = lines_from_lem [] (c ∷ t) b (omega arith) (h (omega arith))

-- a text with one line feed, its last byte, ends the line that it goes on
line_from : (p t : List ℕ) → how_many is_feed t ≡ 1 → last_byte t ≡ 10 → lines_from p t ≡ (p ++ t) ∷ []
unfolding lines_from how_many
line_from p [] n h = absurd (omega (arith, n))
line_from p (c ∷ []) n h = rw (eq-eqb c 10 h)
line_from p (c ∷ d ∷ t) n h = by (λ m. line_from (p ++ (c ∷ [])) (d ∷ t) m (last_rest c d t h)) (is_feed c) refl where
  by : (how_many is_feed (d ∷ t) ≡ 1 → lines_from (p ++ (c ∷ [])) (d ∷ t) ≡ ((p ++ (c ∷ [])) ++ (d ∷ t)) ∷ []) → (e : Bool) → is_feed c ≡ e → lines_from p (c ∷ d ∷ t) ≡ (p ++ (c ∷ d ∷ t)) ∷ []
  by one true z = absurd (omega (arith, ends_counted is_feed (d ∷ t) (omega arith) (eq-eqb (last_byte (d ∷ t)) 10 (last_rest c d t h)), rw z at n))
  by one false z = rw z (one (sym (zero-add (how_many is_feed (d ∷ t))) ∙ (rw z at n)) ∙ ap (λ (l : List ℕ). l ∷ []) (append_assoc p (c ∷ []) (d ∷ t)))

-- A text with one line feed, its last byte, is one line.
pub one_of_lines : (t : List ℕ) → how_many is_feed t ≡ 1 → last_byte t ≡ 10 → lines_of t ≡ t ∷ []
one_of_lines t = line_from [] t

-- Lines bring in their records one after the other.
pub records_append : (ls ms : List (List ℕ)) → records_of (ls ++ ms) ≡ records_of ls ++ records_of ms
records_append [] ms = refl
records_append (l ∷ ls) ms = ap (λ (t : List ℕ). brought_in l ++ t) (records_append ls ms) ∙ sym (append_assoc (brought_in l) (records_of ls) (records_of ms))

-- The line of a station that breaks no rule brings in its record.
pub brought_back : (s : Station) → typed_code s ≡ 0 → brought_in (line_of s) ≡ spell_station s
unfolding brought_in if_done refusal
brought_back s e = rw (line-done s e, line_back s e)
