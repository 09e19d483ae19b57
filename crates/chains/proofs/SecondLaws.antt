-- Beside the first bearer of a key, the first that is unlike it: what they tell of one station more, and how they are kept.
use mathlib.Core.Path.{◌≡◌, refl, sym, subst, ◌∙◌}
use mathlib.Core.Logic.{◌⊎◌, inl, inr, ⊎_elim}
use mathlib.Core.Bool.{Bool, true, false, cond, not, true≢false, and-eq-true_iff, and-false}
use mathlib.Core.List.{List}
use Prim.Native.Nat.{ℕ, zero, suc, ◌-◌, ◌≤◌, ◌<◌}
use native.Mathlib.Nat.{eq-or-lt_of_le}
use native.Mathlib.Numerals.{add-one}
use native.Mathlib.Decide.{ℕ_discrete}
use native.Mathlib.Omega.{arith}
use lib.ListN.{length, get_or, set, replicate, length-set, length-replicate}
use lib.Seq.{get_or-set_same, get_or-set_other}
use Rattle.columns.specs.Texts.{same}
use Rattle.columns.proofs.SameLaws.{same_refl}
use Rattle.forms.specs.Counting.{or_else, first}
use Rattle.forms.proofs.CountLaws.{first_cong, first_found, first_most}
use Rattle.chains.specs.Chains.{Search, bears, first_bearer, leads, record_numbers}
use Rattle.chains.specs.Seconds.{apart, Classes, Seconds}
use Rattle.chains.proofs.ChainLaws.{first-kept, first_here, first_past, bears-key, bears_out, bears_like, is_leading, out_leads_none, later_leads_none, first_hit, bears_takes, bears-same}

-- None so far, and then none: the last does not pass.
none_before : (p : ℕ → Bool) (m : ℕ) → first p (suc m) ≡ 0 → (first p m ≡ 0) × (p (suc m) ≡ false)
none_before p m e = by_case (first p m) (p (suc m)) refl refl e
  where
    by_case : (x : ℕ) (b : Bool) → first p m ≡ x → p (suc m) ≡ b → or_else x (cond b (suc m) 0) ≡ 0 → (first p m ≡ 0) × (p (suc m) ≡ false)
    by_case zero true ex eb z = absurd (omega arith)
    by_case zero false ex eb z = (ex, eb)
    by_case (suc x) b ex eb z = absurd (omega arith)

-- The one that is found passes, and none before it does.
module _ (p : ℕ → Bool) where
  found_passes : (m f : ℕ) → first p m ≡ suc f → (p (suc f) ≡ true) × (first p f ≡ 0)
  found_passes zero f e = absurd (omega arith)
  found_passes (suc m) f e = by_case (first p m) (p (suc m)) refl refl e (found_passes m f)
    where
      by_case : (x : ℕ) (b : Bool) → first p m ≡ x → p (suc m) ≡ b → or_else x (cond b (suc m) 0) ≡ suc f → (first p m ≡ suc f → (p (suc f) ≡ true) × (first p f ≡ 0))
          → (p (suc f) ≡ true) × (first p f ≡ 0)
      by_case zero true ex eb z ih = let e : m ≡ f = omega arith in (rw (← e) eb, rw (← e) ex)
      by_case zero false ex eb z ih = absurd (omega arith)
      by_case (suc x) b ex eb z ih = ih (ex ∙ z)

-- A stronger test finds none where none is found, and the same where what is found passes it.
module _ (p q : ℕ → Bool) (stronger : (i : ℕ) → q i ≡ true → p i ≡ true) where
  weaker_false : (i : ℕ) → p i ≡ false → q i ≡ false
  weaker_false i e = by_case (q i) refl
    where
      by_case : (b : Bool) → q i ≡ b → b ≡ false
      by_case true t = absurd (true≢false (sym (stronger i t) ∙ e))
      by_case false t = refl

  stronger_none : (m : ℕ) → first p m ≡ 0 → first q m ≡ 0
  stronger_none zero e = refl
  stronger_none (suc m) e = let b = none_before p m e in first_past q m (weaker_false (suc m) b.1) ∙ stronger_none m b.0

  stronger_found : (m f : ℕ) → first p m ≡ suc f → q (suc f) ≡ true → first q m ≡ suc f
  stronger_found m f e hit =
      let before = found_passes p m f e in
      let most : first p m ≤ m = first_most p m in
      sym (first_found q m f (stronger_none f before.1) (omega arith) (rw add-one hit)) ∙ add-one f

module _ (s : Search) (alike : ℕ → ℕ → Bool) (classes : Classes alike) where
  module _ (k i : ℕ) where
    apart-bears : apart s alike k i ≡ true → bears s k i ≡ true
    unfolding apart
    apart-bears e = ((and-eq-true_iff (bears s k i) (not (alike i k))).0 e).0

    unlike_apart : bears s k i ≡ true → alike i k ≡ false → apart s alike k i ≡ true
    unfolding apart
    unlike_apart b a = rw (b, a)

    stranger-not-apart : bears s k i ≡ false → apart s alike k i ≡ false
    unfolding apart
    stranger-not-apart e = rw e

    like_not_apart : alike i k ≡ true → apart s alike k i ≡ false
    unfolding apart
    like_not_apart e = rw e (and-false (bears s k i))

  -- who is like one is like the other
  apart_like : (j k i : ℕ) → s.key j ≡ s.key k → alike j k ≡ true → apart s alike k i ≡ apart s alike j i
  unfolding apart
  apart_like j k i e a = rw (bears_like s j k i e, classes.like i j k a)

  alike_sym : (j k : ℕ) → alike j k ≡ true → alike k j ≡ true
  alike_sym j k a = classes.like k j k a ∙ classes.itself k

  unlike_sym : (j k : ℕ) → alike j k ≡ false → alike k j ≡ false
  unlike_sym j k a = by_case (alike k j) refl
    where
      by_case : (b : Bool) → alike k j ≡ b → b ≡ false
      by_case true e = sym (alike_sym k j e) ∙ a
      by_case false e = refl

  -- Without a bearer before it none is apart from k,
  pub none_apart : (k : ℕ) → first_bearer s k ≡ 0 → first (apart s alike k) (k - 1) ≡ 0
  unfolding first_bearer
  none_apart k e = stronger_none (bears s k) (apart s alike k) (apart-bears k) (k - 1) e

  -- and with one,
  module _ (k f : ℕ) (found : first_bearer s k ≡ f) (there : 1 ≤ f) where
    bearer_of : (bears s k f ≡ true) × (first (bears s k) (f - 1) ≡ 0) × (f ≤ k - 1)
    unfolding first_bearer
    bearer_of = by_suc f found there
      where
        by_suc : (f : ℕ) → first (bears s k) (k - 1) ≡ f → 1 ≤ f → (bears s k f ≡ true) × (first (bears s k) (f - 1) ≡ 0) × (f ≤ k - 1)
        by_suc zero e l = absurd (omega arith)
        by_suc (suc f) e l =
            let both = found_passes (bears s k) (k - 1) f e in
            let d : suc f - 1 ≡ f = omega arith in
            let most : first (bears s k) (k - 1) ≤ k - 1 = first_most (bears s k) (k - 1) in
            (both.0, rw d both.1, omega arith)

    pub bearer_key : s.key f ≡ s.key k
    bearer_key = bears-key s k f bearer_of.0

    pub bearer_below : f ≤ k - 1
    bearer_below = bearer_of.2

    -- which leads its key,
    pub bearer_leads : leads s f ≡ true
    unfolding first_bearer
    bearer_leads = is_leading s f (bears_takes s k f bearer_of.0) (first_cong (bears s f) (bears s k) (f - 1) (λ i l. bears_like s f k (suc i) bearer_key) ∙ bearer_of.1)

    -- the first apart from k is that one, where it is unlike k,
    pub first-apart : alike f k ≡ false → first (apart s alike k) (k - 1) ≡ f
    unfolding first_bearer
    first-apart a = by_suc f found there bearer_of.0 a
      where
        by_suc : (f : ℕ) → first (bears s k) (k - 1) ≡ f → 1 ≤ f → bears s k f ≡ true → alike f k ≡ false → first (apart s alike k) (k - 1) ≡ f
        by_suc zero e l b a = absurd (omega arith)
        by_suc (suc f) e l b a = stronger_found (bears s k) (apart s alike k) (apart-bears k) (k - 1) f e (unlike_apart k (suc f) b a)

    -- and else the first that is apart from it.
    pub second_apart : alike f k ≡ true → first (apart s alike k) (k - 1) ≡ first (apart s alike f) (k - 1)
    second_apart a = first_cong (apart s alike k) (apart s alike f) (k - 1) (λ i l. apart_like f k (suc i) bearer_key a)

  -- Before any station there is nothing to tell.
  pub no_seconds : Seconds s alike (replicate record_numbers 0) 0
  no_seconds = record { size = length-replicate {A = ℕ} record_numbers 0; right = λ f l h on. absurd (omega arith) }

  module _ (seconds : List ℕ) (m : ℕ) (so_far : Seconds s alike seconds m) where
    -- one station more that nobody leads to and that does not lead
    unchanged : ((f : ℕ) → 1 ≤ f → f ≤ m → leads s f ≡ true → (apart s alike f (suc m) ≡ false) ⊎ (first (apart s alike f) m ≡ 0 → ⊥)) → leads s (suc m) ≡ false → Seconds s alike seconds (suc m)
    unchanged h n =
        record {
          size = so_far.size;
          right = λ f l below on.
              ⊎_elim (λ q. let e : f ≡ suc m = q in absurd (true≢false (sym on ∙ rw e n)))
              (λ b. let b' : f < suc m = b in
              let w : f ≤ m = omega arith in
              so_far.right f l w on ∙ sym (⊎_elim (λ out. first_past (apart s alike f) m out) (λ some. first-kept (apart s alike f) m some) (h f l w on)))
              (eq-or-lt_of_le below);
        }

    -- a leader whose key the station has is its first bearer
    only_leader : (f : ℕ) → 1 ≤ f → f ≤ m → leads s f ≡ true → s.key f ≡ s.key (suc m) → first_bearer s (suc m) ≡ f
    unfolding first_bearer
    only_leader zero l below on e = absurd (omega arith)
    only_leader (suc f) l below on e =
        let d : suc m - 1 ≡ m = omega arith in
        let hit = first_hit s (suc m) (suc f) l on (rw e (same_refl (s.key (suc m)))) in
        let both = found_passes (bears s (suc m)) (suc f) f hit in
        rw d (sym (first_found (bears s (suc m)) m f both.1 (omega arith) (rw add-one both.0)) ∙ add-one f)

    -- so that no other leader has it apart
    others_apart : (f : ℕ) → 1 ≤ f → f ≤ m → leads s f ≡ true → (first_bearer s (suc m) ≡ f → ⊥) → apart s alike f (suc m) ≡ false
    others_apart f l below on n = stranger-not-apart f (suc m) (by_case (bears s f (suc m)) refl)
      where
        by_case : (b : Bool) → bears s f (suc m) ≡ b → b ≡ false
        by_case true e = absurd (n (only_leader f l below on (sym (bears-key s f (suc m) e))))
        by_case false e = refl

    -- A station that does not take part changes nothing,
    pub seconds_out : s.takes (suc m) ≡ false → Seconds s alike seconds (suc m)
    seconds_out out = unchanged (λ f l below on. inl (stranger-not-apart f (suc m) (bears_out s f (suc m) out))) (out_leads_none s (suc m) out)

    -- nor does one that is like the first bearer of its key, or after whose first bearer a second is known,
    module _ (f : ℕ) (found : first_bearer s (suc m) ≡ f) (there : 1 ≤ f) where
      pub seconds_kept : (alike f (suc m) ≡ true) ⊎ (get_or seconds f 0 ≡ 0 → ⊥) → Seconds s alike seconds (suc m)
      seconds_kept why =
          unchanged (λ g l below on. at_leader g l below on (ℕ_discrete g f))
          (later_leads_none s (suc m) (λ z. absurd (let e : f ≡ 0 = sym found ∙ z in omega arith)))
        where
          at_leader : (g : ℕ) → 1 ≤ g → g ≤ m → leads s g ≡ true → Dec (g ≡ f) → (apart s alike g (suc m) ≡ false) ⊎ (first (apart s alike g) m ≡ 0 → ⊥)
          at_leader g l below on (no n) = inl (others_apart g l below on (λ e. n (sym e ∙ found)))
          at_leader g l below on (yes e) =
              ⊎_elim (λ a. inl (like_not_apart g (suc m) (alike_sym g (suc m) (rw e a)))) (λ n. inr (λ z. n (rw (← e) (so_far.right g l below on ∙ z)))) why

      -- one that is unlike it is its second, where none was known,
      pub seconds_found : suc m < record_numbers → s.takes (suc m) ≡ true → alike f (suc m) ≡ false → get_or seconds f 0 ≡ 0 → Seconds s alike (set seconds f (suc m)) (suc m)
      seconds_found fits t a none =
          record {
            size = length-set seconds f (suc m) ∙ so_far.size;
            right = λ g l below on.
                ⊎_elim (λ q. let e : g ≡ suc m = q in absurd (true≢false (sym on ∙ rw e (later_leads_none s (suc m) (λ z. absurd (let e : f ≡ 0 = sym found ∙ z in omega arith))))))
                (λ b. let b' : g < suc m = b in at_leader g l (omega arith) on (ℕ_discrete g f)) (eq-or-lt_of_le below);
          }
        where
          low : f ≤ m
          low = let d : f ≤ suc m - 1 = bearer_below (suc m) f found there in omega arith

          own : get_or (set seconds f (suc m)) f 0 ≡ suc m
          own = get_or-set_same seconds f (suc m) 0 (omega (arith, so_far.size, low))

          one_key : same (s.key (suc m)) (s.key f) ≡ true
          one_key = rw (bearer_key (suc m) f found there) (same_refl (s.key (suc m)))

          at_leader : (g : ℕ) → 1 ≤ g → g ≤ m → leads s g ≡ true → Dec (g ≡ f) → get_or (set seconds f (suc m)) g 0 ≡ first (apart s alike g) (suc m)
          at_leader g l below on (no n) =
              get_or-set_other seconds f g (suc m) 0 n ∙ so_far.right g l below on ∙ sym (first_past (apart s alike g) m (others_apart g l below on (λ e. n (sym e ∙ found))))
          at_leader g l below on (yes e) =
              let z : first (apart s alike f) m ≡ 0 = sym (so_far.right f there low (bearer_leads (suc m) f found there)) ∙ none in
              subst (λ (x : ℕ). get_or (set seconds f (suc m)) x 0 ≡ first (apart s alike x) (suc m)) (sym e)
              (own ∙ sym (first_here (apart s alike f) m z (unlike_apart f (suc m) (bears-same s f (suc m) t one_key) (unlike_sym f (suc m) a))))

    -- and one that leads has none yet.
    pub seconds_led : first_bearer s (suc m) ≡ 0 → suc m < record_numbers → Seconds s alike (set seconds (suc m) 0) (suc m)
    seconds_led none fits =
        record {
          size = length-set seconds (suc m) 0 ∙ so_far.size;
          right = λ f l below on. ⊎_elim (λ q. let e : f ≡ suc m = q in subst (λ (x : ℕ). get_or (set seconds (suc m) 0) x 0 ≡ first (apart s alike x) (suc m)) (sym e) own) (λ b. let b' : f < suc m = b in before f l (omega arith) on) (eq-or-lt_of_le below);
        }
      where
        own : get_or (set seconds (suc m) 0) (suc m) 0 ≡ first (apart s alike (suc m)) (suc m)
        own =
            let d : suc m - 1 ≡ m = omega arith in
            let inside : suc m < length seconds = omega (arith, so_far.size) in
            let empty : first (apart s alike (suc m)) m ≡ 0 = rw d at (none_apart (suc m) none) in
            get_or-set_same seconds (suc m) 0 0 inside ∙ sym (first_past (apart s alike (suc m)) m (like_not_apart (suc m) (suc m) (classes.itself (suc m))) ∙ empty)

        before : (f : ℕ) → 1 ≤ f → f ≤ m → leads s f ≡ true → get_or (set seconds (suc m) 0) f 0 ≡ first (apart s alike f) (suc m)
        before f l low on =
            get_or-set_other seconds (suc m) f 0 0 (λ q. absurd (omega arith)) ∙ so_far.right f l low on
            ∙ sym (first_past (apart s alike f) m (others_apart f l low on (λ e. absurd (let z : f ≡ 0 = sym e ∙ none in omega arith))))

  -- The same at station k, where those before it are told of.
  pub second_out : (seconds : List ℕ) (k : ℕ) → 1 ≤ k → Seconds s alike seconds (k - 1) → s.takes k ≡ false → Seconds s alike seconds k
  second_out seconds zero l so_far out = absurd (omega arith)
  second_out seconds (suc m) l so_far out = let d : suc m - 1 ≡ m = omega arith in seconds_out seconds m (rw d at so_far) out

  pub second_led : (seconds : List ℕ) (k : ℕ) → 1 ≤ k → Seconds s alike seconds (k - 1) → first_bearer s k ≡ 0 → k < record_numbers → Seconds s alike (set seconds k 0) k
  second_led seconds zero l so_far none fits = absurd (omega arith)
  second_led seconds (suc m) l so_far none fits = let d : suc m - 1 ≡ m = omega arith in seconds_led seconds m (rw d at so_far) none fits

  module _ (f : ℕ) (there : 1 ≤ f) where
    pub second_kept : (seconds : List ℕ) (k : ℕ) → 1 ≤ k → Seconds s alike seconds (k - 1) → first_bearer s k ≡ f → (alike f k ≡ true) ⊎ (get_or seconds f 0 ≡ 0 → ⊥) → Seconds s alike seconds k
    second_kept seconds zero l so_far found why = absurd (omega arith)
    second_kept seconds (suc m) l so_far found why = let d : suc m - 1 ≡ m = omega arith in seconds_kept seconds m (rw d at so_far) f found there why

    pub second_found : (seconds : List ℕ) (k : ℕ) → 1 ≤ k → Seconds s alike seconds (k - 1) → first_bearer s k ≡ f → k < record_numbers → s.takes k ≡ true → alike f k ≡ false → get_or seconds f 0 ≡ 0
        → Seconds s alike (set seconds f k) k
    second_found seconds zero l so_far found fits t a none = absurd (omega arith)
    second_found seconds (suc m) l so_far found fits t a none = let d : suc m - 1 ≡ m = omega arith in seconds_found seconds m (rw d at so_far) f found there fits t a none
