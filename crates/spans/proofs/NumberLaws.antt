-- A number that was read keeps its bytes' flaw, and has the flaw of another range than the one it was read with.
use mathlib.Core.Path.{◌≡◌, refl, sym, ap, ◌∙◌}
use mathlib.Core.Bool.{Bool, true, false, cond, not, ◌&&◌}
use mathlib.Core.List.{List, []}
use Prim.Native.Nat.{ℕ}
use lib.IntN.{ℤ}
use Rattle.columns.specs.Texts.{every}
use Rattle.formats.specs.Tenths.{in_tenths}
use Rattle.distances.specs.Distances.{in_metres}
use Rattle.flaws.specs.Flaws.{ranged}
use Rattle.flaw_parts.specs.Parts.{number_within, bounded, flaw_in}
use Rattle.flaws.specs.declared.Flaw.{Flaw}
use Rattle.flaws.specs.declared.Flaw.TheVariants as flaw
use Rattle.spans.specs.Numbers.{was_read, said_tenths, said_height}
use Rattle.std.specs.Prelude.{Option, Some, None, Result, Ok, Err}

-- Three tests of a field, and the third anew.
abbrev judged : Bool → Bool → Bool → Flaw
judged a r w = cond (not a) flaw.Byte (cond (r && not w) flaw.Range (cond (not r) flaw.Shape flaw.None))

anew : (a r w v : Bool) → judged a r v ≡ cond (was_read (judged a r w)) (ranged v) (judged a r w)
anew false r w v = refl
anew true false w v = refl
anew true true true true = refl
anew true true true false = refl
anew true true false true = refl
anew true true false false = refl

-- So it is with a field that was judged by one range and is judged by another: what was not read keeps its flaw, and what was has that of its new range.
module _ (admits : ℕ → Bool) (reads old new : List ℕ → Bool) (p : List ℕ) (x : Flaw) (found : x ≡ flaw_in (bounded admits reads old) [] p) (b : Bool) (told : b ≡ was_read x) where
  by_range : flaw_in (bounded admits reads new) [] p ≡ cond (was_read (flaw_in (bounded admits reads old) [] p)) (ranged (new p)) (flaw_in (bounded admits reads old) [] p)
  by_range = anew (every admits p) (reads p) (old p) (new p)

  seen : was_read (flaw_in (bounded admits reads old) [] p) ≡ b
  seen = sym (told ∙ ap was_read found)

  pub not_read : b ≡ false → x ≡ flaw_in (bounded admits reads new) [] p
  not_read e = found ∙ sym (by_range ∙ ap (λ (t : Bool). cond t (ranged (new p)) (flaw_in (bounded admits reads old) [] p)) (seen ∙ e))

  pub read_anew : b ≡ true → ranged (new p) ≡ flaw_in (bounded admits reads new) [] p
  read_anew e = sym (by_range ∙ ap (λ (t : Bool). cond t (ranged (new p)) (flaw_in (bounded admits reads old) [] p)) (seen ∙ e))

-- What was read, by its typed value.
pub tenths_said : (range : ℤ → Bool) (v : Result (Option ℤ) Flaw) → ranged (number_within range v) ≡ said_tenths range (in_tenths v)
tenths_said range (Err wrong) = refl
tenths_said range (Ok None) = refl
tenths_said range (Ok (Some z)) = refl

pub height_said : (range : ℤ → Bool) (v : Result (Option ℤ) Flaw) → ranged (number_within range v) ≡ said_height range (in_metres v)
height_said range (Err wrong) = refl
height_said range (Ok None) = refl
height_said range (Ok (Some z)) = refl
