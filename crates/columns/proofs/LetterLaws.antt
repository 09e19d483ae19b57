-- A `match` on a byte decides as the letters of a text do: SetLaws, for the sets that are given by their letters.
use mathlib.Core.Path.{◌≡◌, refl, ap, ◌∙◌}
use mathlib.Core.Bool.{Bool, false, ◌||◌}
use mathlib.Core.List.{List, [], ◌∷◌}
use Prim.Native.Nat.{ℕ, ◌-◌, ◌≤◌, ◌<◌}
use Prim.Native.String.{String}
use Prim.Native.String as text
use lib.Dec.{T, eqb}
use types.Run.{OneOf}
use Rattle.columns.specs.Sets.{is, among}
use Rattle.columns.specs.Texts.{bytes}
use Rattle.columns.proofs.SetLaws.{agree, decided, answers, keyed}

-- one of the bytes of a list
abbrev pub listed : List ℕ → ℕ → Bool
listed [] c = false
listed (x ∷ xs) c = eqb c x || listed xs c

-- the letters of a text are its bytes
letters : (x : String) (c : ℕ) → listed (bytes x) c ≡ among x c
unfolding among
letters text.[] c = refl
letters (text.◌∷◌ x s) c = ap (λ (b : Bool). is x c || b) (letters s c)

-- a byte from low up to, not including, high that is none of the keys
pub letter_run : (x : String) {b : Bool} (c : ℕ) (keys : List ℕ) (low high : ℕ) → T (agree (listed (bytes x)) b keys low (high - low)) → low ≤ c → c < high → (OneOf keys c → ⊥) → b ≡ among x c
letter_run x {b} c keys low high t l h n = decided (listed (bytes x)) b keys low high t c l h n ∙ letters x c

-- a byte that is one of the keys
pub letter_key : (x : String) {b : Bool} (c : ℕ) (keys : List ℕ) → T (answers (listed (bytes x)) b keys) → OneOf keys c → b ≡ among x c
letter_key x {b} c keys t o = keyed (listed (bytes x)) b keys t c o ∙ letters x c
