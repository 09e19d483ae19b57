-- Document 01, "How columns are read": blank, text, and fields whose every place has a rule of its own. A text is its list of bytes.
use Rattle.std.specs.Prelude.{ℕ, ◌+◌, ◌-◌, Bool, true, false, cond, not, ◌&&◌, ◌||◌, List, [], ◌∷◌, length, get_or, drop, replicate, eqb}
use Prim.Native.Char.{code}
use Prim.Native.String.{String}
use Prim.Native.String as text
use Rattle.columns.specs.Sets.{is}

-- The bytes of a literal.
abbrev pub bytes : String → List ℕ
bytes text.[] = []
bytes (text.◌∷◌ x s) = code x ∷ bytes s

-- The first byte of a text, 0 where there is none.
abbrev pub head : List ℕ → ℕ
head t = get_or t 0 0

-- The text after its first byte.
abbrev pub tail : List ℕ → List ℕ
tail t = drop 1 t

-- No byte is left.
abbrev pub ended : List ℕ → Bool
ended [] = true
ended (c ∷ t) = false

-- The text from its first byte on that is no space.
unfoldable pub skip : List ℕ → List ℕ
skip [] = []
skip (c ∷ t) = cond (is " " c) (skip t) (c ∷ t)

-- Blank means all spaces.
abbrev pub blank : List ℕ → Bool
blank p = ended (skip p)

-- The text with its trailing spaces off.
unfoldable pub trimmed : List ℕ → List ℕ
trimmed [] = []
trimmed (c ∷ t) = cond (blank (c ∷ t)) [] (c ∷ trimmed t)

-- Every byte passes.
unfoldable pub every : (ℕ → Bool) → List ℕ → Bool
every test [] = true
every test (c ∷ t) = test c && every test t

-- How many bytes pass.
unfoldable pub how_many : (ℕ → Bool) → List ℕ → ℕ
how_many test [] = 0
how_many test (c ∷ t) = cond (test c) 1 0 + how_many test t

-- As many bytes as tests, and each passes its own.
unfoldable pub each : List (ℕ → Bool) → List ℕ → Bool
each [] [] = true
each [] (c ∷ p) = false
each (test ∷ tests) [] = false
each (test ∷ tests) (c ∷ p) = test c && each tests p

-- A field of one byte, which passes.
unfoldable pub byte_good : (ℕ → Bool) → List ℕ → Bool
byte_good test p = each (test ∷ []) p

-- The tests of a literal's bytes, one for each.
abbrev pub exactly : String → List (ℕ → Bool)
exactly text.[] = []
exactly (text.◌∷◌ x s) = is x ∷ exactly s

-- The two texts are equal.
unfoldable pub same : List ℕ → List ℕ → Bool
same [] [] = true
same [] (c ∷ p) = false
same (x ∷ xs) [] = false
same (x ∷ xs) (c ∷ p) = eqb c x && same xs p

-- The text is one of the literals.
unfoldable pub one_of : List String → List ℕ → Bool
one_of [] p = false
one_of (x ∷ xs) p = same (bytes x) p || one_of xs p

-- The text ends in a literal.
abbrev pub ends_in : String → List ℕ → Bool
ends_in x p = same (bytes x) (drop (length p - length (bytes x)) p)

-- The text has w bytes.
abbrev pub sized : ℕ → List ℕ → Bool
sized w p = eqb (length p) w

-- A text as it is kept in w bytes: its own, and spaces where it has another length.
unfoldable pub text_in : ℕ → List ℕ → List ℕ
text_in w p = cond (sized w p) p (replicate w 32)

-- Text of w bytes of a set, left-justified: the first byte is a space only if all are.
unfoldable pub text_good : ℕ → (ℕ → Bool) → List ℕ → Bool
text_good w set p = sized w p && every set p && (blank p || not (is " " (head p)))
