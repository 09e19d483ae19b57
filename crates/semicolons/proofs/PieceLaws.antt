-- A field that has its columns' width, its spaces on its padding side and no mark in it, and what follows for a line of such fields.
use mathlib.Core.Path.{◌≡◌, refl, sym, ap, ◌∙◌}
use mathlib.Core.Bool.{Bool, true, false, cond, not, ◌&&◌, false≢true}
use mathlib.Core.List.{List, [], ◌∷◌, ◌++◌}
use Prim.Native.Nat.{ℕ, zero, suc, ◌+◌, ◌/◌, ◌%◌}
use native.Mathlib.Omega.{arith}
use lib.Dec.{eqb, leb}
use lib.ListN.{length, replicate}
use borrow.Author.Tests.{ne_eqb, le-leb}
use Rattle.columns.specs.Sets.{is, is_digit}
use Rattle.columns.specs.Texts.{skip, blank, trimmed, every}
use Rattle.numerals.specs.Numbers.{spell_digits}
use Rattle.columns.proofs.TextLaws.{and_split, and_both, cond_case}
use Rattle.numerals.proofs.RoundTrip.{digit_is}
use Rattle.basics.proofs.FieldLaws.{Wide}
use Rattle.semicolons.specs.Fields.{trimmed_field, trimmed_fields, padded_fields, none_longer}
use Rattle.semicolons.specs.declared.Side.{Side}
use Rattle.semicolons.specs.declared.Side.TheVariants as side
use Rattle.semicolons.proofs.PadLaws.{Stands, pad_back, goes_out}
use Rattle.semicolons.proofs.LineLaws.{plain, AllPlain}

-- A field of w columns as it is spelled.
pub record Piece (s : Side) (w : ℕ) (p : List ℕ) : Type 0 where
  pub wide : length p ≡ w
  pub stands : Stands s p
  pub unmarked : every plain p ≡ true

-- Each field is so.
abbrev pub Pieces : List Side → List (ℕ × ℕ) → List (List ℕ) → Type 0
Pieces [] [] [] = Unit {0}
Pieces [] [] (p ∷ ps) = ⊥
Pieces [] (q ∷ qs) ps = ⊥
Pieces (s ∷ ss) [] ps = ⊥
Pieces (s ∷ ss) (q ∷ qs) [] = ⊥
Pieces (s ∷ ss) (q ∷ qs) (p ∷ ps) = Piece s q.1 p × Pieces ss qs ps

-- a test that passes on every byte passes on what is left of them
every-skip : (test : ℕ → Bool) (p : List ℕ) → every test p ≡ true → every test (skip p) ≡ true
unfolding every skip
every-skip test [] e = refl
every-skip test (c ∷ p) e = cond_case (λ (l : List ℕ). every test l ≡ true) (eqb c 32) (λ f. every-skip test p (and_split (test c) (every test p) e).1) (λ f. e)

every-trimmed : (test : ℕ → Bool) (p : List ℕ) → every test p ≡ true → every test (trimmed p) ≡ true
unfolding every trimmed
every-trimmed test [] e = refl
every-trimmed test (c ∷ p) e =
    let h = and_split (test c) (every test p) e in
    cond_case (λ (l : List ℕ). every test l ≡ true) (blank (c ∷ p)) (λ f. refl) (λ f. and_both (test c) (every test (trimmed p)) h.0 (every-trimmed test p h.1))

out_plain : (s : Side) (p : List ℕ) → every plain p ≡ true → every plain (trimmed_field s p) ≡ true
unfolding trimmed_field
out_plain side.Left p e = every-trimmed plain (skip p) (every-skip plain p e)
out_plain side.Right p e = every-trimmed plain (skip p) (every-skip plain p e)
out_plain side.Kept p e = e

-- Such fields have the widths of their places,
pub pieces_wide : (ss : List Side) (qs : List (ℕ × ℕ)) (ps : List (List ℕ)) → Pieces ss qs ps → Wide qs ps
pieces_wide [] [] [] h = tt
pieces_wide [] [] (p ∷ ps) h = absurd h
pieces_wide [] (q ∷ qs) ps h = absurd h
pieces_wide (s ∷ ss) [] ps h = absurd h
pieces_wide (s ∷ ss) (q ∷ qs) [] h = absurd h
pieces_wide (s ∷ ss) (q ∷ qs) (p ∷ ps) h = (h.0.wide, pieces_wide ss qs ps h.1)

-- go out without a mark,
pub pieces_plain : (ss : List Side) (qs : List (ℕ × ℕ)) (ps : List (List ℕ)) → Pieces ss qs ps → AllPlain (trimmed_fields ss ps)
pieces_plain [] [] [] h = tt
pieces_plain [] [] (p ∷ ps) h = absurd h
pieces_plain [] (q ∷ qs) ps h = absurd h
pieces_plain (s ∷ ss) [] ps h = absurd h
pieces_plain (s ∷ ss) (q ∷ qs) [] h = absurd h
pieces_plain (s ∷ ss) (q ∷ qs) (p ∷ ps) h = (out_plain s p h.0.unmarked, pieces_plain ss qs ps h.1)

-- none of them longer than its columns,
pub pieces_short : (ss : List Side) (qs : List (ℕ × ℕ)) (ps : List (List ℕ)) → Pieces ss qs ps → none_longer qs (trimmed_fields ss ps) ≡ true
pieces_short [] [] [] h = refl
pieces_short [] [] (p ∷ ps) h = absurd h
pieces_short [] (q ∷ qs) ps h = absurd h
pieces_short (s ∷ ss) [] ps h = absurd h
pieces_short (s ∷ ss) (q ∷ qs) [] h = absurd h
pieces_short (s ∷ ss) (q ∷ qs) (p ∷ ps) h =
    and_both (leb (length (trimmed_field s p)) q.1) (none_longer qs (trimmed_fields ss ps)) (le-leb (length (trimmed_field s p)) q.1 (omega (arith, goes_out s p, h.0.wide))) (pieces_short ss qs ps h.1)

-- and come back.
pub pieces_back : (ss : List Side) (qs : List (ℕ × ℕ)) (ps : List (List ℕ)) → Pieces ss qs ps → padded_fields ss qs (trimmed_fields ss ps) ≡ ps
pieces_back [] [] [] h = refl
pieces_back [] [] (p ∷ ps) h = absurd h
pieces_back [] (q ∷ qs) ps h = absurd h
pieces_back (s ∷ ss) [] ps h = absurd h
pieces_back (s ∷ ss) (q ∷ qs) [] h = absurd h
pieces_back (s ∷ ss) (q ∷ qs) (p ∷ ps) h = rw (pad_back s q.1 p h.0.wide h.0.stands, pieces_back ss qs ps h.1)

-- ---- bytes

-- A byte that is neither a mark nor a space.
abbrev pub solid : ℕ → Bool
solid c = plain c && not (is " " c)

-- a test that refuses both marks passes plain bytes only,
abbrev pub refuses_marks : (ℕ → Bool) → Bool
refuses_marks test = not (test 59) && not (test 10)

-- and one that refuses the space too, solid ones
abbrev pub refuses_spaces : (ℕ → Bool) → Bool
refuses_spaces test = refuses_marks test && not (test 32)

pub not_this : (test : ℕ → Bool) (x c : ℕ) → not (test x) ≡ true → test c ≡ true → eqb c x ≡ false
not_this test x c r e = ne_eqb c x (λ q. by (test x) r (ap test (sym q) ∙ e)) where
  by : (b : Bool) → not b ≡ true → b ≡ true → ⊥
  by true r e = false≢true r
  by false r e = false≢true e

pub plain_byte : (test : ℕ → Bool) → refuses_marks test ≡ true → (c : ℕ) → test c ≡ true → plain c ≡ true
plain_byte test r c e =
    let h = and_split (not (test 59)) (not (test 10)) r in
    rw (not_this test 59 c h.0 e, not_this test 10 c h.1 e)

pub solid_byte : (test : ℕ → Bool) → refuses_spaces test ≡ true → (c : ℕ) → test c ≡ true → solid c ≡ true
solid_byte test r c e =
    let h = and_split (refuses_marks test) (not (test 32)) r in
    rw (plain_byte test h.0 c e, not_this test 32 c h.1 e)

-- a test that passes on every byte carries over to one that it implies
pub every_more : (a b : ℕ → Bool) → ((c : ℕ) → a c ≡ true → b c ≡ true) → (p : List ℕ) → every a p ≡ true → every b p ≡ true
unfolding every
every_more a b f [] e = refl
every_more a b f (c ∷ p) e =
    let h = and_split (a c) (every a p) e in
    and_both (b c) (every b p) (f c h.0) (every_more a b f p h.1)

pub every_append : (test : ℕ → Bool) (p t : List ℕ) → every test p ≡ true → every test t ≡ true → every test (p ++ t) ≡ true
unfolding every
every_append test [] t e f = f
every_append test (c ∷ p) t e f =
    let h = and_split (test c) (every test p) e in
    and_both (test c) (every test (p ++ t)) h.0 (every_append test p t h.1 f)

pub spaces-plain : (n : ℕ) → every plain (replicate n 32) ≡ true
unfolding every
spaces-plain zero = refl
spaces-plain (suc n) = spaces-plain n

pub solid-plain : (c : ℕ) → solid c ≡ true → plain c ≡ true
solid-plain c e = (and_split (plain c) (not (is " " c)) e).0

-- ---- solid fields stand on either side

solid-skip : (p : List ℕ) → every solid p ≡ true → skip p ≡ p
unfolding every skip
solid-skip [] e = refl
solid-skip (c ∷ p) e = by (is " " c) (and_split (plain c) (not (is " " c)) (and_split (solid c) (every solid p) e).0).1 where
  by : (b : Bool) → not b ≡ true → cond b (skip p) (c ∷ p) ≡ c ∷ p
  by true f = absurd (false≢true f)
  by false f = refl

solid_trim : (p : List ℕ) → every solid p ≡ true → trimmed p ≡ p
unfolding every trimmed
solid_trim [] e = refl
solid_trim (c ∷ p) e = rw (solid-skip (c ∷ p) e, solid_trim p (and_split (solid c) (every solid p) e).1)

pub solid_stands : (s : Side) (p : List ℕ) → every solid p ≡ true → Stands s p
solid_stands side.Left p e = rw (solid-skip p e) (solid_trim p e)
solid_stands side.Right p e = rw (solid-skip p e)
solid_stands side.Kept p e = tt

pub solid-piece : (s : Side) (w : ℕ) (p : List ℕ) → length p ≡ w → every solid p ≡ true → Piece s w p
solid-piece s w p n e = record { wide = n; stands = solid_stands s p e; unmarked = every_more solid plain solid-plain p e }

-- behind a space on the left too
pub spaced-piece : (w : ℕ) (p : List ℕ) → suc (length p) ≡ w → every solid p ≡ true → Piece side.Left w (32 ∷ p)
unfolding skip every
spaced-piece w p n e = record { wide = n; stands = solid_stands side.Left p e; unmarked = every_more solid plain solid-plain p e }

-- digits are solid
pub solid_digits : (k m : ℕ) (t : List ℕ) → every solid t ≡ true → every solid (spell_digits k m t) ≡ true
unfolding spell_digits every
solid_digits zero m t e = e
solid_digits (suc k) m t e =
    let d = 48 + m % 10 in
    solid_digits k (m / 10) (d ∷ t) (and_both (solid d) (every solid t) (solid_byte is_digit refl d (digit_is m)) e)
