-- How a call on a record ends: refused for the record's length, refused for a broken rule, or done.
use Rattle.std.specs.Prelude.{Ok, Err}
use mathlib.Core.Path.{◌≡◌, refl, sym, ap, ◌∙◌}
use mathlib.Core.Bool.{Bool, true, false, not, cond}
use mathlib.Core.List.{List, [], ◌∷◌}
use Prim.Native.Nat.{ℕ}
use lib.Dec.{eqb}
use lib.ListN.{length}
use borrow.Author.Tests.{eq-eqb, ne_eqb, eqb-true, not-false}
use Rattle.basics.specs.Fields.{record_length}
use Rattle.basics.specs.Outcomes.{refusal, if_done, when, first_refusal, rule_test, judged, Outcome}
use Rattle.basics.specs.declared.Refusal.TheVariants as why
use Rattle.basics.proofs.RefusalLaws.{done, passes, stops, none_applies}

-- How it ends on s, whose code is k, where `short` refuses another length.
abbrev pub ending : List ℕ → ℕ → Outcome → Outcome
ending s k short = first_refusal (when (not (eqb (length s) record_length)) short ∷ rule_test k ∷ [])

-- Where it is done the record has its length and no rule is broken,
pub accepted : (s : List ℕ) (k : ℕ) (short : Outcome) → done short ≡ false → done (ending s k short) ≡ true → (length s ≡ record_length) × (k ≡ 0)
unfolding refusal
accepted s k short f e =
    let none = none_applies (when (not (eqb (length s) record_length)) short ∷ rule_test k ∷ []) (rw f) e in
    (eqb-true (length s) record_length (not-false _ none.0), eqb-true k 0 (not-false _ none.1.0))

module _ (s : List ℕ) (k : ℕ) (short : Outcome) where
  -- another length ends the call,
  pub length_ends : (length s ≡ record_length → ⊥) → short ≡ ending s k short
  length_ends n = sym (stops short (rule_test k ∷ []) (rw (ne_eqb (length s) record_length n)))

  -- and a record of its length is judged by its code,
  pub code_ends : length s ≡ record_length → {a : ℕ} {o : Outcome} → a ≡ k → o ≡ judged a → o ≡ ending s k short
  unfolding judged
  code_ends l e j = j ∙ rw e (sym (passes short (rule_test k ∷ []) (rw (eq-eqb (length s) record_length l))))

-- so that the answer to "is it done" tells what is handed back.
pub handed : {A : Type 0} (o : Outcome) (x y : A) {b : Bool} → b ≡ done o → cond b x y ≡ if_done o x y
unfolding if_done
handed o x y e = ap (λ d. cond d x y) e

-- The outcome, and what is there after it: x where the call is done, else y.
abbrev pub CallEnded : {A : Type 0} → List ℕ → ℕ → Outcome → A → A → Outcome → A → Type 0
CallEnded s k short x y o v = (o ≡ ending s k short) × (v ≡ if_done (ending s k short) x y)

module _ {A : Type 0} (s : List ℕ) (k : ℕ) (short : Outcome) (x y : A) {v : A} where
  -- another length is refused,
  pub wrong_length : (length s ≡ record_length → ⊥) → eqb (refusal short) 0 ≡ false → v ≡ y → CallEnded s k short x y short v
  unfolding if_done first_refusal
  wrong_length n f e = rw (ne_eqb (length s) record_length n, f) (refl, e)

  module _ (l : length s ≡ record_length) {a : ℕ} (d : a ≡ k) where
    -- and so is a broken rule,
    pub rule_broken : (a ≡ 0 → ⊥) → v ≡ y → CallEnded s k short x y (Err (why.RuleBroken a)) v
    unfolding if_done first_refusal refusal
    rule_broken n e = rw (eq-eqb (length s) record_length l, ← d, ne_eqb a 0 n) (refl, e)

    -- and where none is broken the call is done.
    pub call-done : a ≡ 0 → v ≡ x → CallEnded s k short x y (Ok tt) v
    unfolding if_done first_refusal refusal
    call-done z e = rw (eq-eqb (length s) record_length l, ← d, eq-eqb a 0 z) (refl, e)
