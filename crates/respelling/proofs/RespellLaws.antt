-- A record read and then written in the one spelling: the calls together end as respelling does.
use Rattle.std.specs.Prelude.{Ok, Err}
use mathlib.Core.Path.{◌≡◌, refl, sym, ap, ◌∙◌}
use mathlib.Core.Bool.{true, false}
use mathlib.Core.List.{List, [], ◌∷◌}
use Prim.Native.Nat.{ℕ}
use lib.ListN.{length}
use borrow.Author.Tests.{eq-eqb, eqb-true, not-false}
use Rattle.basics.specs.Fields.{record_length}
use Rattle.basics.specs.Outcomes.{refusal, if_done, Test, first_refusal, record_test, buffer_test, rule_test, Outcome}
use Rattle.basics.specs.declared.Refusal.TheVariants as why
use Rattle.basics.proofs.RefusalLaws.{done, if_done_lem, if_refused, passes, none_left, NoneApplies, none_applies, asked-on, ended-there}
use Rattle.basics.proofs.CallLaws.{ending, accepted}
use Rattle.respelling.specs.Respelling.{respelling}

-- A record and a buffer of the right length.
abbrev pub length_tests : List ℕ → List ℕ → List Test
length_tests r out = record_test r ∷ buffer_test out ∷ []

pub lengths_passed : (r out : List ℕ) → done (first_refusal (length_tests r out)) ≡ true → NoneApplies (length_tests r out)
unfolding refusal
lengths_passed r out d = none_applies (length_tests r out) refl d

-- A call that ends without a broken rule, on bytes of the right length, is done.
pub taken : (s : List ℕ) (k : ℕ) (short : Outcome) → length s ≡ record_length → k ≡ 0 → ending s k short ≡ Ok tt
unfolding first_refusal
taken s k short l z = rw (eq-eqb (length s) record_length l, eq-eqb k 0 z)

-- A record of code k says v; a value has the code `typed` and the spelling `spell`.
module _ {A : Type 0} (k : ℕ) (v empty : A) (typed : A → ℕ) (spell : A → List ℕ) (r out : List ℕ) (fits : length r ≡ record_length → k ≡ 0 → typed v ≡ 0) where
  abbrev Ends : Outcome → List ℕ → Type 0
  Ends answer after = (answer ≡ respelling k r out) × (after ≡ if_done (respelling k r out) (spell v) out)

  -- what ends as respelling does and is refused leaves the buffer as it was
  left : {o : Outcome} → o ≡ respelling k r out → done o ≡ false → Ends o out
  left e f = (e, sym (if_refused (respelling k r out) (spell v) out (ap done (sym e) ∙ f)))

  -- Lengths that are refused end it;
  pub lengths_refused : {o : Outcome} → o ≡ first_refusal (length_tests r out) → done o ≡ false → Ends o out
  unfolding respelling
  lengths_refused e f = left (e ∙ ended-there (length_tests r out) (rule_test k ∷ []) (ap done (sym e) ∙ f)) f

  module _ (none : NoneApplies (length_tests r out)) where
    rule_left : respelling k r out ≡ first_refusal (rule_test k ∷ [])
    unfolding respelling
    rule_left = asked-on (length_tests r out) (rule_test k ∷ []) none

    -- a record that reading refuses ends it,
    pub reading_refused : {o : Outcome} → o ≡ ending r k (Err why.RecordLength) → done o ≡ false → Ends o out
    reading_refused e f = left (e ∙ passes (Err why.RecordLength) (rule_test k ∷ []) none.0 ∙ sym rule_left) f

    -- and any other has its length and breaks no rule:
    module _ {o : Outcome} (e : o ≡ ending r k (Err why.RecordLength)) (d : done o ≡ true) where
      yes : done (ending r k (Err why.RecordLength)) ≡ true
      yes = ap done (sym e) ∙ d

      pub all_fit : (length r ≡ record_length) × (length out ≡ record_length) × (k ≡ 0)
      unfolding refusal
      all_fit =
          let all = accepted r k (Err why.RecordLength) refl yes in
          (all.0, eqb-true (length out) record_length (not-false _ none.1.0), all.1)

      done_all : respelling k r out ≡ Ok tt
      done_all = rule_left ∙ passes (Err (why.RuleBroken k)) [] (rw (eq-eqb k 0 all_fit.2)) ∙ none_left

      -- the spelling of what it says ends it,
      pub spelling_put : {after : List ℕ} → after ≡ spell v → Ends (Ok tt) after
      unfolding refusal
      spelling_put ea = (sym done_all, ea ∙ sym (ap (λ (x : Outcome). if_done x (spell v) out) done_all ∙ if_done_lem (Ok tt) (spell v) out refl))

      -- and what was read of it fits, and may be written
      module _ {s : A} (es : s ≡ if_done (ending r k (Err why.RecordLength)) v empty) where
        own : s ≡ v
        own = es ∙ if_done_lem (ending r k (Err why.RecordLength)) v empty yes

        pub may_write : (length out ≡ record_length) × (typed s ≡ 0)
        may_write = (all_fit.1, ap typed own ∙ fits all_fit.0 all_fit.2)

        -- by what does not judge it.
        pub value_put : {after : List ℕ} → after ≡ spell s → Ends (Ok tt) after
        value_put ea = spelling_put (ea ∙ ap spell own)
