-- Fields joined to a line are found in it again, and the line has its marks, over any fields that hold none.
use mathlib.Core.Path.{◌≡◌, refl, ap, ◌∙◌}
use mathlib.Core.Bool.{Bool, true, false, not, ◌||◌, false≢true}
use mathlib.Core.List.{List, [], ◌∷◌, ◌++◌}
use Prim.Native.Nat.{ℕ, suc, ◌≤◌}
use native.Mathlib.Omega.{arith}
use native.Mathlib.Nat.{zero-add}
use native.Mathlib.Numerals.{sub-one}
use lib.ListN.{length, length-append}
use Rattle.columns.specs.Texts.{every, how_many}
use Rattle.columns.proofs.TextLaws.{and_split}
use Rattle.semicolons.specs.Lines.{is_semicolon, is_feed, is_mark, joined_line, before, behind, split, last_byte}

-- A byte that may stand in a field: no mark.
abbrev pub plain : ℕ → Bool
plain c = not (is_mark c)

-- No field holds a mark.
abbrev pub AllPlain : List (List ℕ) → Type 0
AllPlain [] = Unit {0}
AllPlain (p ∷ ps) = (every plain p ≡ true) × AllPlain ps

no_mark : (b : Bool) → not b ≡ true → b ≡ false
no_mark true e = absurd (false≢true e)
no_mark false e = refl

neither : (a b : Bool) → not (a || b) ≡ true → (a ≡ false) × (b ≡ false)
neither true b e = absurd (false≢true e)
neither false true e = absurd (false≢true e)
neither false false e = (refl, refl)

-- a field and the mark behind it
module _ (c : ℕ) (t : List ℕ) (m : is_mark c ≡ true) where
  before-mark : (p : List ℕ) → every plain p ≡ true → before (p ++ (c ∷ t)) ≡ p
  unfolding before every
  before-mark [] e = rw m
  before-mark (x ∷ p) e =
      let h = and_split (plain x) (every plain p) e in
      rw (no_mark (is_mark x) h.0) (ap (λ (l : List ℕ). x ∷ l) (before-mark p h.1))

  behind-mark : (p : List ℕ) → every plain p ≡ true → behind (p ++ (c ∷ t)) ≡ t
  unfolding behind every
  behind-mark [] e = rw m
  behind-mark (x ∷ p) e =
      let h = and_split (plain x) (every plain p) e in
      rw (no_mark (is_mark x) h.0) (behind-mark p h.1)

-- Fields that are joined are found again.
pub split-joined : (ps : List (List ℕ)) → AllPlain ps → split (length ps) (joined_line ps) ≡ ps
unfolding split
split-joined [] h = refl
split-joined (p ∷ []) h = rw (before-mark 10 [] refl p h.0)
split-joined (p ∷ q ∷ ps) h =
    let rest = joined_line (q ∷ ps) in
    rw (before-mark 59 rest refl p h.0, behind-mark 59 rest refl p h.0) (ap (λ (l : List (List ℕ)). p ∷ l) (split-joined (q ∷ ps) h.1))

-- a field has no mark to count
no_semicolon : (p t : List ℕ) → every plain p ≡ true → how_many is_semicolon (p ++ t) ≡ how_many is_semicolon t
unfolding how_many every
no_semicolon [] t e = refl
no_semicolon (x ∷ p) t e =
    let h = and_split (plain x) (every plain p) e in
    rw ((neither (is_semicolon x) (is_feed x) h.0).0, zero-add) (no_semicolon p t h.1)

no_feed : (p t : List ℕ) → every plain p ≡ true → how_many is_feed (p ++ t) ≡ how_many is_feed t
unfolding how_many every
no_feed [] t e = refl
no_feed (x ∷ p) t e =
    let h = and_split (plain x) (every plain p) e in
    rw ((neither (is_semicolon x) (is_feed x) h.0).1, zero-add) (no_feed p t h.1)

-- There is a semicolon for each field but one,
pub semicolons : (p : List ℕ) (ps : List (List ℕ)) → AllPlain (p ∷ ps) → how_many is_semicolon (joined_line (p ∷ ps)) ≡ length ps
unfolding how_many
semicolons p [] h = no_semicolon p (10 ∷ []) h.0
semicolons p (q ∷ ps) h = no_semicolon p (59 ∷ joined_line (q ∷ ps)) h.0 ∙ rw (semicolons q ps h.1) (omega arith)

-- one line feed,
pub one_feed : (p : List ℕ) (ps : List (List ℕ)) → AllPlain (p ∷ ps) → how_many is_feed (joined_line (p ∷ ps)) ≡ 1
unfolding how_many
one_feed p [] h = no_feed p (10 ∷ []) h.0
one_feed p (q ∷ ps) h = no_feed p (59 ∷ joined_line (q ∷ ps)) h.0 ∙ zero-add (how_many is_feed (joined_line (q ∷ ps))) ∙ one_feed q ps h.1

-- The last byte of a text is that of its rest,
pub last_cons : (x : ℕ) (t : List ℕ) → 1 ≤ length t → last_byte (x ∷ t) ≡ last_byte t
last_cons x [] h = absurd (omega arith)
last_cons x (y ∷ t) h = rw (sub-one (suc (suc (length t))), sub-one (suc (length t)))

-- and of two texts that of the second.
pub last_append : (p t : List ℕ) → 1 ≤ length t → last_byte (p ++ t) ≡ last_byte t
last_append [] t h = refl
last_append (x ∷ p) t h = last_cons x (p ++ t) (omega (arith, length-append p t)) ∙ last_append p t h

-- fields make a line of some bytes,
some_bytes : (p : List ℕ) (ps : List (List ℕ)) → 1 ≤ length (joined_line (p ∷ ps))
some_bytes p [] = omega (arith, length-append p (10 ∷ []))
some_bytes p (q ∷ ps) = omega (arith, length-append p (59 ∷ joined_line (q ∷ ps)))

-- and a line feed is the last of them.
pub feed_last : (p : List ℕ) (ps : List (List ℕ)) → last_byte (joined_line (p ∷ ps)) ≡ 10
feed_last p [] = last_append p (10 ∷ []) (omega arith)
feed_last p (q ∷ ps) =
    let rest = joined_line (q ∷ ps) in
    last_append p (59 ∷ rest) (omega arith) ∙ last_cons 59 rest (some_bytes q ps) ∙ feed_last q ps
