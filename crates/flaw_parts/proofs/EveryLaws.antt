-- Every byte of a text is in a set: the laws over any set S, for texts in parts, numbers, literals and tests by place.
use mathlib.Core.Path.{◌≡◌, refl, sym, ap, ◌∙◌}
use mathlib.Core.Bool.{Bool, true, false, cond, not, ◌&&◌, ◌||◌, false≢true, or-true}
use mathlib.Core.List.{List, [], ◌∷◌}
use Prim.Native.Nat.{ℕ, zero, suc, ◌+◌, ◌<◌}
use Prim.Native.Char.{code}
use Prim.Native.String.{String}
use Prim.Native.String as text
use lib.Dec.{eqb}
use lib.ListN.{length, get_or, take, drop}
use borrow.Author.Tests.{eqb-true}
use Rattle.columns.specs.Sets.{is, among, is_digit}
use Rattle.columns.specs.Texts.{bytes, head, tail, ended, skip, blank, trimmed, every, each, byte_good, same, one_of}
use Rattle.columns.proofs.TextLaws.{and_split, and_both, cond_case, every_more}
use Rattle.numerals.specs.Numbers.{leading, after, number, whole_digits, whole_of, whole_filled, in_sign, has_minus, unsigned, number_of}
use Rattle.decimals.specs.Decimals.{fraction_of, magnitude_of}
use Rattle.flaws.specs.Flaws.{unread}
use Rattle.flaws.specs.declared.Flaw.{Flaw}
use Rattle.flaw_parts.specs.Parts.{in_some, at_some, number_reads}
use Rattle.std.specs.Prelude.{Option, Some, None, Result, Ok, Err, ℤ}
use Rattle.numerals.specs.declared.Unread.{Unread}

pub or_left : (a b : Bool) → a ≡ true → (a || b) ≡ true
or_left a b e = rw e

pub or_right : (a b : Bool) → b ≡ true → (a || b) ≡ true
or_right a b e = rw e (or-true a)

pub or_case : {C : Type 0} (a b : Bool) → (a || b) ≡ true → (a ≡ true → C) → (b ≡ true → C) → C
or_case true b e f g = f refl
or_case false b e f g = g e

-- ---- every byte of a text is in a set

module _ (S : ℕ → Bool) where
  pub ended-every : (t : List ℕ) → ended t ≡ true → every S t ≡ true
  unfolding every
  ended-every [] e = refl
  ended-every (c ∷ t) e = absurd (false≢true e)

  pub every_wider : (R : ℕ → Bool) → ((c : ℕ) → R c ≡ true → S c ≡ true) → (p : List ℕ) → every R p ≡ true → every S p ≡ true
  unfolding every
  every_wider R w [] e = refl
  every_wider R w (c ∷ p) e = let h = and_split (R c) (every R p) e in and_both (S c) (every S p) (w c h.0) (every_wider R w p h.1)

  -- two parts
  pub every-parts : (n : ℕ) (p : List ℕ) → every S (take n p) ≡ true → every S (drop n p) ≡ true → every S p ≡ true
  unfolding every
  every-parts zero p e f = f
  every-parts (suc n) [] e f = refl
  every-parts (suc n) (c ∷ p) e f = let h = and_split (S c) (every S (take n p)) e in and_both (S c) (every S p) h.0 (every-parts n p h.1 f)

  -- one byte, and what follows
  pub every_at : (p : List ℕ) (i : ℕ) → i < length p → S (get_or p i 0) ≡ true → every S (drop (i + 1) p) ≡ true → every S (drop i p) ≡ true
  every_at p i h e f = every_more S p i h e ∙ f

  -- digits at the front
  pub every-after : ((c : ℕ) → is_digit c ≡ true → S c ≡ true) → (k : ℕ) (t : List ℕ) → every S (after k t) ≡ true → every S t ≡ true
  unfolding every leading
  every-after d zero t e = e
  every-after d (suc k) [] e = refl
  every-after d (suc k) (c ∷ t) e = by (is_digit c) refl (every-after d k t) e where
    by : (b : Bool) → is_digit c ≡ b → (every S (drop (length (leading k t)) t) ≡ true → every S t ≡ true) → every S (drop (length (cond b (c ∷ leading k t) [])) (c ∷ t)) ≡ true → (S c && every S t) ≡ true
    by true q h e = and_both (S c) (every S t) (d c q) (h e)
    by false q h e = e

  pub whole_digits_in : ((c : ℕ) → is_digit c ≡ true → S c ≡ true) → (t : List ℕ) → whole_filled (whole_digits t) ≡ true → every S t ≡ true
  unfolding whole_digits
  whole_digits_in d t =
      let l = leading 18 t in
      cond_case (λ (w : Result (Option ℕ) Unread). whole_filled w ≡ true → every S t ≡ true) (not (ended l) && ended (drop (length l) t))
      (λ q e. every-after d 18 t (ended-every (drop (length l) t) (and_split (not (ended l)) (ended (drop (length l) t)) q).1))
      (λ q e. absurd (false≢true e))

  module _ (space : S 32 ≡ true) where
    pub every-skip : (p : List ℕ) → every S (skip p) ≡ true → every S p ≡ true
    unfolding every skip
    every-skip [] e = refl
    every-skip (c ∷ p) e = by (is " " c) refl (every-skip p) e where
      by : (b : Bool) → is " " c ≡ b → (every S (skip p) ≡ true → every S p ≡ true) → every S (cond b (skip p) (c ∷ p)) ≡ true → (S c && every S p) ≡ true
      by true q h e = and_both (S c) (every S p) (ap S (eqb-true c 32 q) ∙ space) (h e)
      by false q h e = e

    pub every-blank : (p : List ℕ) → blank p ≡ true → every S p ≡ true
    every-blank p e = every-skip p (ended-every (skip p) e)

    -- trailing spaces
    pub every-trimmed : (p : List ℕ) → every S (trimmed p) ≡ true → every S p ≡ true
    unfolding every trimmed
    every-trimmed [] e = refl
    every-trimmed (c ∷ p) e = by (blank (c ∷ p)) refl (every-trimmed p) e where
      by : (b : Bool) → blank (c ∷ p) ≡ b → (every S (trimmed p) ≡ true → every S p ≡ true) → every S (cond b [] (c ∷ trimmed p)) ≡ true → (S c && every S p) ≡ true
      by true q h e = every-blank (c ∷ p) q
      by false q h e = let g = and_split (S c) (every S (trimmed p)) e in and_both (S c) (every S p) g.0 (h g.1)

    module _ (digit : (c : ℕ) → is_digit c ≡ true → S c ≡ true) where
      -- a whole number,
      pub whole_in : (p : List ℕ) → whole_filled (whole_of p) ≡ true → every S p ≡ true
      unfolding whole_of
      whole_in p =
          cond_case (λ (w : Result (Option ℕ) Unread). whole_filled w ≡ true → every S p ≡ true) (ended (skip p))
          (λ q e. absurd (false≢true e))
          (λ q e. every-skip p (whole_digits_in digit (skip p) e))

      -- what stands behind the point,
      pub fraction_in : (b v : ℕ) (t : List ℕ) → whole_filled (fraction_of b v t) ≡ true → every S t ≡ true
      unfolding fraction_of
      fraction_in b v t =
          let l = leading b t in
          cond_case (λ (w : Result (Option ℕ) Unread). whole_filled w ≡ true → every S t ≡ true) (not (ended l) && blank (drop (length l) t))
          (λ q e. every-after digit b t (every-blank (drop (length l) t) (and_split (not (ended l)) (blank (drop (length l) t)) q).1))
          (λ q e. absurd (false≢true e))

      -- the point,
      pub point_in : S 46 ≡ true → (t : List ℕ) → is "." (head t) ≡ true → every S (tail t) ≡ true → every S t ≡ true
      unfolding every
      point_in p [] q e = refl
      point_in p (c ∷ t) q e = and_both (S c) (every S t) (ap S (eqb-true c 46 q) ∙ p) e

      -- a decimal's digits,
      pub magnitude_in : S 46 ≡ true → (a b : ℕ) (t : List ℕ) → whole_filled (magnitude_of a b t) ≡ true → every S t ≡ true
      unfolding magnitude_of
      magnitude_in p a b t =
          let point = drop (length (leading a t)) t in
          cond_case (λ (w : Result (Option ℕ) Unread). whole_filled w ≡ true → every S t ≡ true) (is "." (head point))
          (λ q e. every-after digit a t (point_in p point q (fraction_in b (number (leading a t)) (tail point) e)))
          (λ q e. absurd (false≢true e))

      -- and a sign before them
      module _ (sign : Bool) (mark : sign ≡ true → (c : ℕ) → among "+-" c ≡ true → S c ≡ true) where
        pub unsigned_in : (t : List ℕ) → every S (unsigned sign t) ≡ true → every S t ≡ true
        unfolding every unsigned
        unsigned_in [] e = refl
        unsigned_in (c ∷ t) e =
            cond_case (λ (l : List ℕ). every S l ≡ true → (S c && every S t) ≡ true) (sign && among "+-" c)
            (λ q f. let h = and_split sign (among "+-" c) q in and_both (S c) (every S t) (mark h.0 c h.1) f)
            (λ q f. f) e

        pub in_sign_lem : (wrong : Flaw) (minus : Bool) (w : Result (Option ℕ) Unread) → number_reads (in_sign wrong minus w) ≡ true → whole_filled w ≡ true
        in_sign_lem wrong minus (Err bad) e = e
        in_sign_lem wrong minus (Ok None) e = e
        in_sign_lem wrong minus (Ok (Some v)) e = e

        pub number_in : (admits : ℕ → Bool) (d : List ℕ → Result (Option ℕ) Unread) → ((t : List ℕ) → whole_filled (d t) ≡ true → every S t ≡ true) → (p : List ℕ) → number_reads (number_of sign admits d p) ≡ true → every S p ≡ true
        number_in admits d h p =
            cond_case (λ (w : Result (Option ℤ) Flaw). number_reads w ≡ true → every S p ≡ true) (ended (skip p))
            (λ q e. every-blank p q)
            (λ q e. every-skip p (unsigned_in (skip p) (h (unsigned sign (skip p)) (in_sign_lem (unread admits p) (has_minus sign (skip p)) (d (unsigned sign (skip p))) e))))

  -- a literal, one of some, and a test for each place
  pub same_in : (x : String) → ((c : ℕ) → among x c ≡ true → S c ≡ true) → (p : List ℕ) → same (bytes x) p ≡ true → every S p ≡ true
  unfolding every same among
  same_in text.[] w [] e = refl
  same_in text.[] w (c ∷ p) e = absurd (false≢true e)
  same_in (text.◌∷◌ y x) w [] e = refl
  same_in (text.◌∷◌ y x) w (c ∷ p) e =
      let h = and_split (eqb c (code y)) (same (bytes x) p) e in
      and_both (S c) (every S p) (w c (or_left (is y c) (among x c) h.0)) (same_in x (λ d q. w d (or_right (is y d) (among x d) q)) p h.1)

  pub one_in : (xs : List String) → ((c : ℕ) → in_some xs c ≡ true → S c ≡ true) → (p : List ℕ) → one_of xs p ≡ true → every S p ≡ true
  unfolding one_of in_some
  one_in [] w p e = absurd (false≢true e)
  one_in (x ∷ xs) w p e =
      or_case (same (bytes x) p) (one_of xs p) e
      (λ q. same_in x (λ c r. w c (or_left (among x c) (in_some xs c) r)) p q)
      (λ q. one_in xs (λ c r. w c (or_right (among x c) (in_some xs c) r)) p q)

  pub each_in : (tests : List (ℕ → Bool)) → ((c : ℕ) → at_some tests c ≡ true → S c ≡ true) → (p : List ℕ) → each tests p ≡ true → every S p ≡ true
  unfolding every each at_some
  each_in [] w [] e = refl
  each_in [] w (c ∷ p) e = absurd (false≢true e)
  each_in (t ∷ ts) w [] e = refl
  each_in (t ∷ ts) w (c ∷ p) e =
      let h = and_split (t c) (each ts p) e in
      and_both (S c) (every S p) (w c (or_left (t c) (at_some ts c) h.0)) (each_in ts (λ d q. w d (or_right (t d) (at_some ts d) q)) p h.1)

pub byte_in : (test : ℕ → Bool) (p : List ℕ) → byte_good test p ≡ true → every test p ≡ true
unfolding byte_good at_some
byte_in test p e = each_in test (test ∷ []) wider p e where
  wider : (c : ℕ) → at_some (test ∷ []) c ≡ true → test c ≡ true
  wider c q = or_case (test c) false q (λ r. r) (λ r. absurd (false≢true r))
