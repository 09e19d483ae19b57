-- The sites that are kept, with one station more.
use mathlib.Core.Path.{◌≡◌, refl, sym, ◌∙◌}
use mathlib.Core.Logic.{inl, inr}
use mathlib.Core.Bool.{Bool, true, false}
use mathlib.Core.List.{List}
use Prim.Native.Nat.{ℕ, ◌-◌, ◌≤◌, ◌<◌}
use native.Mathlib.Omega.{arith}
use lib.ListN.{get_or, set, replicate}
use borrow.Author.Tests.{eq-eqb, ne_eqb}
use Rattle.stations.specs.Stations.{code_at}
use Rattle.standing.specs.Standing.{stand_alike}
use Rattle.forms.proofs.CountLaws.{first_most}
use Rattle.chains.specs.declared.chaining.Chain.{Chain}
use Rattle.chains.specs.Chains.{bears, first_bearer, record_numbers, leads, Chains}
use Rattle.chains.specs.Seconds.{Seconds}
use Rattle.chains.proofs.ChainLaws.{is_leading, later_leads_none, out_leads_none, left_out}
use Rattle.chains.proofs.SecondLaws.{no_seconds, none_apart, bearer_below, bearer_leads, first-apart, second_apart, second_out, second_led, second_kept, second_found}
use Rattle.sites.specs.declared.KeptSites.{KeptSites}
use Rattle.sites.specs.Sites.{at_site, GoodTakesPart, first_elsewhere, Sites}
use Rattle.sites.proofs.ClassLaws.{stand_classes}

-- Before any station no site is kept.
pub no_sites : (file : List ℕ) (who : ℕ → Bool) (codes : List ℕ) (chain : Chain) → Chains (at_site who file) chain 0 → Sites file who (record { codes = codes; chain = chain; seconds = replicate record_numbers 0 }) 0
no_sites file who codes chain none = record { chains = none; elsewhere = no_seconds (at_site who file) (stand_alike file) (stand_classes file) }

module _ (file : List ℕ) (who : ℕ → Bool) (k : ℕ) (positive : 1 ≤ k) where
  -- A first bearer stands before the station.
  pub bearer_most : first_bearer (at_site who file) k ≤ k - 1
  unfolding first_bearer
  bearer_most = first_most (bears (at_site who file) k) (k - 1)

  -- A station that does not take part leaves all as it was,
  pub site_out : (kept : KeptSites) → who k ≡ false → Sites file who kept (k - 1) → Sites file who kept k
  site_out kept out so_far =
      record {
        chains = left_out (at_site who file) kept.chain k positive so_far.chains (out_leads_none (at_site who file) k out);
        elsewhere = second_out (at_site who file) (stand_alike file) (stand_classes file) kept.seconds k positive so_far.elsewhere out;
      }

  module _ (part : GoodTakesPart file who k) where
    good_takes : code_at file k ≡ 0 → who k ≡ true
    good_takes e = part ∙ eq-eqb (code_at file k) 0 e

    broken_out : (code_at file k ≡ 0 → ⊥) → who k ≡ false
    broken_out n = part ∙ ne_eqb (code_at file k) 0 n

    -- so does one that breaks a rule,
    pub site_broken : (kept : KeptSites) → (code_at file k ≡ 0 → ⊥) → Sites file who kept (k - 1) → Sites file who kept k
    site_broken kept n so_far = site_out kept (broken_out n) so_far

    -- and one without a bearer before it leads.
    module _ (none : first_bearer (at_site who file) k ≡ 0) where
      pub site-leads : code_at file k ≡ 0 → leads (at_site who file) k ≡ true
      site-leads good = is_leading (at_site who file) k (good_takes good) none

      pub site_led : (kept : KeptSites) (codes : List ℕ) (chain : Chain) → k < record_numbers → Chains (at_site who file) chain k → Sites file who kept (k - 1)
          → Sites file who (record { codes = codes; chain = chain; seconds = set kept.seconds k 0 }) k
      site_led kept codes chain fits put so_far =
          record { chains = put; elsewhere = second_led (at_site who file) (stand_alike file) (stand_classes file) kept.seconds k positive so_far.elsewhere none fits }

      pub none_elsewhere : 0 ≡ first_elsewhere file who k
      none_elsewhere = sym (none_apart (at_site who file) (stand_alike file) (stand_classes file) k none)

    -- With a bearer before it,
    module _ (f : ℕ) (there : 1 ≤ f) (found : first_bearer (at_site who file) k ≡ f) where
      site-follows : (kept after : KeptSites) → after.chain ≡ kept.chain → Sites file who kept (k - 1) → Seconds (at_site who file) (stand_alike file) after.seconds k → Sites file who after k
      site-follows kept after same so_far told =
          record {
            chains = rw same (left_out (at_site who file) kept.chain k positive so_far.chains (later_leads_none (at_site who file) k (λ z. absurd (let e : f ≡ 0 = sym found ∙ z in omega arith))));
            elsewhere = told;
          }

      -- it stands as that one does, and the first that stands elsewhere is that one's,
      pub site-alike : (kept : KeptSites) → stand_alike file f k ≡ true → Sites file who kept (k - 1)
          → (get_or kept.seconds f 0 ≡ first_elsewhere file who k) × Sites file who kept k
      site-alike kept same so_far =
          let s = at_site who file in
          let a = stand_alike file in
          let cs = stand_classes file in (
            so_far.elsewhere.right f there (bearer_below s a cs k f found there) (bearer_leads s a cs k f found there) ∙ sym (second_apart s a cs k f found there same),
            site-follows kept kept refl so_far (second_kept s a cs f there kept.seconds k positive so_far.elsewhere found (inl same)),
          )

      -- or it does not, and that one is it; then it may be the second.
      pub site_unlike : (kept after : KeptSites) → after.chain ≡ kept.chain → stand_alike file f k ≡ false → Seconds (at_site who file) (stand_alike file) after.seconds k → Sites file who kept (k - 1)
          → (f ≡ first_elsewhere file who k) × Sites file who after k
      site_unlike kept after same other told so_far =
          (sym (first-apart (at_site who file) (stand_alike file) (stand_classes file) k f found there other), site-follows kept after same so_far told)

      pub second_known : (seconds : List ℕ) → (get_or seconds f 0 ≡ 0 → ⊥) → Seconds (at_site who file) (stand_alike file) seconds (k - 1) → Seconds (at_site who file) (stand_alike file) seconds k
      second_known seconds known so_far = second_kept (at_site who file) (stand_alike file) (stand_classes file) f there seconds k positive so_far found (inr known)

      pub second_broken : (seconds : List ℕ) → (code_at file k ≡ 0 → ⊥) → Seconds (at_site who file) (stand_alike file) seconds (k - 1) → Seconds (at_site who file) (stand_alike file) seconds k
      second_broken seconds n so_far = second_out (at_site who file) (stand_alike file) (stand_classes file) seconds k positive so_far (broken_out n)

      pub second_good : (seconds : List ℕ) → code_at file k ≡ 0 → k < record_numbers → stand_alike file f k ≡ false → get_or seconds f 0 ≡ 0 → Seconds (at_site who file) (stand_alike file) seconds (k - 1)
          → Seconds (at_site who file) (stand_alike file) (set seconds f k) k
      second_good seconds good fits other free so_far =
          second_found (at_site who file) (stand_alike file) (stand_classes file) f there seconds k positive so_far found fits (good_takes good) other free
