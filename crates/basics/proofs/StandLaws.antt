-- Where a piece of lent bytes stands.
use mathlib.Core.Path.{◌≡◌, ap, ◌∙◌}
use mathlib.Core.List.{List}
use Prim.Native.Nat.{ℕ, ◌+◌}
use native.Mathlib.Omega.{arith}
use denote.Ref.{Bor}
use Rattle.basics.specs.Pieces.{StandsAt}

-- A part that is cut off at a place stands there,
pub cut_at : (b o i a : ℕ) → i ≡ a → ◌≡◌ {A = ℕ × ℕ} (b, i + o) (b, o + a)
cut_at b o i a e = ap (λ (x : ℕ). (b, x)) (omega arith)

-- one from the front on at the front,
pub front_at : (file : Bor (List ℕ)) (a : ℕ) → 0 ≡ a → file.ref_ptr ≡ (file.ref_ptr.0, file.ref_ptr.1 + a)
front_at file a e = ap (λ (x : ℕ). (file.ref_ptr.0, x)) (omega arith)

-- and a piece of a piece at both places together.
pub piece_of_piece : (whole part piece : Bor (List ℕ)) (a b : ℕ) → StandsAt whole a part → StandsAt part b piece → StandsAt whole (a + b) piece
piece_of_piece whole part piece a b p q =
    q ∙ ap (λ (w : ℕ × ℕ). (w.0, w.1 + b)) p ∙ ap (λ (o : ℕ). (whole.ref_ptr.0, o)) (omega arith)
