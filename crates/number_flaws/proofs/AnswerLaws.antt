-- A field's flaw is the one that its reader's answer brings.
use mathlib.Core.Path.{◌≡◌, refl, sym, ap, ◌∙◌}
use mathlib.Core.Bool.{Bool, true, false, cond, not, ◌&&◌, ◌||◌, false≢true, and-false, or-true}
use mathlib.Core.List.{List, [], ◌∷◌}
use Prim.Native.Nat.{ℕ}
use native.Mathlib.Omega.{arith}
use lib.IntN.{ℤ}
use lib.ListN.{length, replicate}
use Rattle.columns.specs.Sets.{among, is_digit}
use Rattle.columns.specs.Texts.{bytes, blank, every, each, byte_good}
use Rattle.columns.proofs.TextLaws.{and_split, cond_case}
use Rattle.numerals.specs.Numbers.{admits_whole}
use Rattle.numerals.proofs.NumberLaws.{Carries}
use Rattle.days.specs.Dates.{date_reads, unread_date, date_of, date_in, date_rule}
use Rattle.frequencies.specs.Frequencies.{unit_good}
use Rattle.positions.specs.Positions.{position_good, admits_position, position_reads, unread_position, located_of}
use Rattle.fields.specs.Kinds.{unit, date_or_blank, position}
use Rattle.flaws.specs.Flaws.{letter_of, unread, ranged}
use Rattle.flaw_parts.specs.Parts.{number_reads, day_reads, number_within, date_within, day_within, position_within, Parts, numbered, parts, flaw_in, flaw_at}
use Rattle.flaws.specs.declared.Flaw.{Flaw}
use Rattle.flaws.specs.declared.Flaw.TheVariants as flaw
use Rattle.flaws.proofs.SetsAlike.{unread-alike, among-letters}
use Rattle.flaw_parts.proofs.AdmittedLaws.{admitted}
use Rattle.flaw_parts.proofs.SplitLaws.{split, unread_flaw, none_means, range_means, byte_means, shape_means}
use Rattle.number_flaws.specs.Answers.{number_flaw, day_flaw, place_flaw}
use Rattle.std.specs.Prelude.{Option, Some, None, Result, Ok, Err}
use Rattle.days.specs.declared.dates.Date.{Date}
use Rattle.positions.specs.declared.Position.{Position}

-- what is read has the flaw of its range
in_range : (b : Bool) → ranged b ≡ cond (not b) flaw.Range flaw.None
in_range true = refl
in_range false = refl

-- A number: what its reader carries is the flaw of its bytes.
pub number_flaw_lem : (admits : ℕ → Bool) (range : ℤ → Bool) (number : List ℕ → Result (Option ℤ) Flaw) (p : List ℕ) → (number_reads (number p) ≡ true → every admits p ≡ true) → Carries (unread admits p) (number p)
    → (v : Result (Option ℤ) Flaw) → number p ≡ v → number_flaw range v ≡ flaw_in (numbered admits range number) [] p
number_flaw_lem admits range number p adm wrong (Err x) e = (rw e at wrong) ∙ unread_flaw (numbered admits range number) [] p (ap number_reads e)
number_flaw_lem admits range number p adm wrong (Ok None) e = rw (adm (ap number_reads e), e)
number_flaw_lem admits range number p adm wrong (Ok (Some z)) e = rw (adm (ap number_reads e), e) (in_range (range z))

-- A unit that is at odds with its amount.
unit_one : (q : List ℕ) → length q ≡ 1 → every (among "kMG ") q ≡ byte_good (among "kMG ") q
unfolding every byte_good each
unit_one [] n = absurd (omega arith)
unit_one (c ∷ []) n = refl
unit_one (c ∷ d ∷ q) n = absurd (omega arith)

pub unit_long : (q : List ℕ) → (length q ≡ 1 → ⊥) → byte_good (among "kMG ") q ≡ false
unfolding byte_good each
unit_long [] n = refl
unit_long (c ∷ []) n = absurd (n refl)
unit_long (c ∷ d ∷ q) n = and-false (among "kMG " c)

pub unit_kept : (p q : List ℕ) → unit_good p q ≡ true → flaw.None ≡ flaw_at 2 p q
unit_kept p q e =
    let h = and_split (byte_good (among "kMG ") q) (unit_good p q) (sym (split unit 1 (p ∷ q ∷ []) 2) ∙ e) in
    sym (none_means unit 1 p q h.0 h.1)

pub unit_odd : (p q : List ℕ) → length q ≡ 1 → unit_good p q ≡ false → every (among "kMG ") q ≡ true → flaw.Range ≡ flaw_at 2 p q
unit_odd p q n e a = sym (range_means unit 1 p q (rw (sym (unit_one q n) ∙ a, e)))

pub unit_strange : (p q : List ℕ) → every (among "kMG ") q ≡ false → flaw.Byte ≡ flaw_at 2 p q
unit_strange p q a = sym (byte_means unit 1 p q a)

pub unit_unread : (p q : List ℕ) → (length q ≡ 1 → ⊥) → unread (among "kMG ") q ≡ flaw_at 2 p q
unit_unread p q n = unread_flaw (parts unit 1) p q (unit_long q n)

-- A date.
module _ (p : List ℕ) where
  blank_day : blank p ≡ true → flaw.None ≡ flaw_at 8 [] p
  unfolding day_reads day_within
  blank_day b = sym (none_means date_or_blank 8 [] p (rw b) (rw b))

  real_day : date_reads p ≡ true → date_within p ≡ true → flaw.None ≡ flaw_at 8 [] p
  unfolding day_reads day_within
  real_day r w = sym (none_means date_or_blank 8 [] p (rw r (or-true (blank p))) (rw w (or-true (blank p))))

  no_day : blank p ≡ false → date_reads p ≡ true → date_within p ≡ false → flaw.Range ≡ flaw_at 8 [] p
  unfolding day_reads day_within
  no_day b r w = sym (range_means date_or_blank 8 [] p (rw (b, r, w)))

  no_date : blank p ≡ false → date_reads p ≡ false → unread (admits_whole false) p ≡ flaw_at 8 [] p
  unfolding day_reads
  no_date b r = unread_flaw (parts date_or_blank 8) [] p (rw (b, r))

  day_answer : day_flaw (date_of p) ≡ flaw_at 8 [] p
  unfolding date_of unread_date date_within
  day_answer =
      cond_case (λ (d : Result (Option Date) Flaw). day_flaw d ≡ flaw_at 8 [] p) (blank p) blank_day
      (λ b. cond_case (λ (d : Result (Option Date) Flaw). day_flaw d ≡ flaw_at 8 [] p) (date_reads p && date_within p)
      (λ e. let h = and_split (date_reads p) (date_within p) e in real_day h.0 h.1)
      (λ e. cond_case (λ (x : Flaw). x ≡ flaw_at 8 [] p) (date_reads p)
      (λ r. no_day b r (sym (ap (λ (t : Bool). t && date_within p) r) ∙ e))
      (no_date b)))

pub day_flaw_lem : (p : List ℕ) (d : Result (Option Date) Flaw) → date_of p ≡ d → day_flaw d ≡ flaw_at 8 [] p
day_flaw_lem p d e = ap day_flaw (sym e) ∙ day_answer p

-- A place.
place_kept : (p : List ℕ) → position_good p ≡ true → flaw.None ≡ flaw_at 11 [] p
place_kept p e =
    let h = and_split (position_reads p) (position_within p) (sym (split position 15 (p ∷ []) 1) ∙ e) in
    sym (none_means position 15 [] p h.0 h.1)

place_outside : (p : List ℕ) → position_good p ≡ false → position_reads p ≡ true → flaw.Range ≡ flaw_at 11 [] p
place_outside p e r =
    let w : position_within p ≡ false = sym (ap (λ (b : Bool). b && position_within p) r) ∙ sym (split position 15 (p ∷ []) 1) ∙ e in
    sym (range_means position 15 [] p (rw (r, w)))

place_unread : (p : List ℕ) → position_reads p ≡ false → unread admits_position p ≡ flaw_at 11 [] p
place_unread p r = unread_flaw (parts position 15) [] p r

place_answer : (p : List ℕ) → place_flaw (located_of p) ≡ flaw_at 11 [] p
unfolding located_of unread_position
place_answer p =
    cond_case (λ (d : Result Position Flaw). place_flaw d ≡ flaw_at 11 [] p) (position_good p) (place_kept p)
    (λ e. cond_case (λ (x : Flaw). x ≡ flaw_at 11 [] p) (position_reads p) (place_outside p e) (place_unread p))

pub place_flaw_lem : (p : List ℕ) (d : Result Position Flaw) → located_of p ≡ d → place_flaw d ≡ flaw_at 11 [] p
place_flaw_lem p d e = ap place_flaw (sym e) ∙ place_answer p

-- The letters of a unit.
pub unit_letters : (p : List ℕ) → unread (letter_of (bytes "kMG ")) p ≡ unread (among "kMG ") p
unit_letters p = sym (unread-alike (among "kMG ") (letter_of (bytes "kMG ")) (among-letters "kMG ") p)
