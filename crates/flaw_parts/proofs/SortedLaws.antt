-- The flaw of the first broken code: code 0 has none, a field's code one of the three, and a code above the fields lies between them.
use mathlib.Core.Path.{◌≡◌, refl, sym, ap, ◌∙◌}
use mathlib.Core.Logic.{◌⊎◌, inl, inr}
use mathlib.Core.Bool.{Bool, true, false, cond, not, ◌&&◌, true≢false}
use mathlib.Core.List.{List, [], ◌∷◌, ◌++◌}
use Prim.Native.Nat.{ℕ, zero, suc, ◌+◌, ◌-◌, ◌≤◌, ◌<◌}
use native.Mathlib.Omega.{arith}
use lib.Dec.{leb}
use lib.ListN.{length, get_or}
use borrow.Author.Tests.{le-leb, lt-leb}
use Rattle.columns.specs.Texts.{every}
use Rattle.columns.proofs.TextLaws.{cond_case}
use Rattle.basics.specs.Rules.{first_broken}
use Rattle.basics.specs.Fields.{at}
use Rattle.fields.specs.Kinds.{Kind, Meaning, meaning}
use Rattle.fields.specs.Rows.{Row, Values}
use Rattle.flaws.specs.Flaws.{flawless, ranged}
use Rattle.flaw_parts.specs.Parts.{Parts, parts, flaw_in, flaw_by, flaws_from, kept_as_bytes, typed_flaw_by, typed_flaws, flaw_with, flawless_all}
use Rattle.flaws.specs.declared.Flaw.{Flaw}
use Rattle.flaws.specs.declared.Flaw.TheVariants as flaw

-- One of a field's three flaws.
abbrev pub of_field : Flaw → Bool
of_field flaw.None = false
of_field flaw.Byte = true
of_field flaw.Range = true
of_field flaw.Shape = true
of_field flaw.Between = false

-- What the flaw of a code may be where n fields are asked first.
pub record Sorted (n code : ℕ) (x : Flaw) : Type 0 where
  pub none : code ≡ 0 → x ≡ flaw.None
  pub field : 1 ≤ code → code ≤ n → of_field x ≡ true
  pub between : n < code → x ≡ flaw.Between

-- a field that has a flaw has one of the three
abbrev Own : Flaw → Type 0
Own x = flawless x ≡ false → of_field x ≡ true

abbrev pub OwnAll : List Flaw → Type 0
OwnAll [] = Unit {0}
OwnAll (x ∷ xs) = Own x × OwnAll xs

own : (part : Parts) (before p : List ℕ) → Own (flaw_in part before p)
own part before p =
    cond_case Own (not (every part.admits p)) (λ q e. refl)
    (λ q. cond_case Own (part.reads p && not (part.within before p)) (λ q e. refl)
    (λ q. cond_case Own (not (part.reads p)) (λ q e. refl) (λ q e. absurd (true≢false e))))

own_range : (b : Bool) → Own (ranged b)
own_range b = cond_case Own b (λ q e. absurd (true≢false e)) (λ q e. refl)

pub all_own : (k : ℕ) (t : List Row) (f : List (List ℕ)) → OwnAll (flaws_from k t f)
all_own k [] f = tt
all_own k (r ∷ rs) f = (own (parts r.kind r.length) (at f (k - 1)) (at f k), all_own (suc k) rs f)

own_typed : (r : Row) (v : (meaning r.kind r.length).Value) → Own (typed_flaw_by r v)
own_typed r v =
    let m = meaning r.kind r.length in
    cond_case Own (kept_as_bytes r.kind) (λ q. own (parts r.kind r.length) [] (m.spelt v)) (λ q. own_range (m.fits v))

pub all_typed : (t : List Row) (v : Values t) → OwnAll (typed_flaws t v)
all_typed [] v = tt
all_typed (r ∷ rs) v = (own_typed r v.0, all_typed rs v.1)

-- the code is 0, or that of a broken rule
record Found (k : ℕ) (rules : List Bool) : Type 0 where
  number : ℕ
  is : first_broken (suc k) rules ≡ suc (k + number)
  broken : get_or rules number true ≡ false

found : (k : ℕ) (rules : List Bool) → (first_broken (suc k) rules ≡ 0) ⊎ Found k rules
unfolding first_broken
found k [] = inl refl
found k (true ∷ rules) = next (found (suc k) rules) where
  next : (first_broken (suc (suc k)) rules ≡ 0) ⊎ Found (suc k) rules → (first_broken (suc (suc k)) rules ≡ 0) ⊎ Found k (true ∷ rules)
  next (inl e) = inl e
  next (inr g) = inr (record { number = suc g.number; is = g.is ∙ omega arith; broken = g.broken })
found k (false ∷ rules) = inr (record { number = 0; is = omega arith; broken = refl })

-- a broken rule of the fields has its field's flaw
beside : (xs : List Flaw) (rules : List Bool) (i : ℕ) → OwnAll xs → get_or (flawless_all xs ++ rules) i true ≡ false → i < length xs → of_field (get_or xs i flaw.None) ≡ true
beside [] rules i h e l = absurd (omega arith)
beside (x ∷ xs) rules zero h e l = h.0 e
beside (x ∷ xs) rules (suc i) h e l = beside xs rules i h.1 e (omega arith)

-- So each code has its flaw, whatever the rules between fields are.
module _ (xs : List Flaw) (rules : List Bool) (own-all : OwnAll xs) where
  sorted_by : (c : ℕ) → first_broken 1 (flawless_all xs ++ rules) ≡ c → (first_broken 1 (flawless_all xs ++ rules) ≡ 0) ⊎ Found 0 (flawless_all xs ++ rules) → Sorted (length xs) c (flaw_with xs c)
  sorted_by c h (inl e) =
      let z : c ≡ 0 = sym h ∙ e in
      record { none = λ q. ap (flaw_with xs) z; field = λ l m. absurd (omega arith); between = λ l. absurd (omega arith) }
  sorted_by c h (inr g) =
      let z : c ≡ suc g.number = sym h ∙ g.is ∙ omega arith in
      record {
        none = λ q. absurd (omega arith);
        field = λ l m.
            ap (λ (i : ℕ). of_field (flaw_with xs i)) z
            ∙ rw (le-leb (suc g.number) (length xs) (omega arith)) (beside xs rules g.number own-all g.broken (omega arith));
        between = λ l. ap (flaw_with xs) z ∙ rw (lt-leb (suc g.number) (length xs) (omega arith));
      }

  pub sorted : let c = first_broken 1 (flawless_all xs ++ rules) in Sorted (length xs) c (flaw_with xs c)
  sorted = sorted_by (first_broken 1 (flawless_all xs ++ rules)) refl (found 0 (flawless_all xs ++ rules))
