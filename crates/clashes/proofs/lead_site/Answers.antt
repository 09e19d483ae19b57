-- `clashes::lead_site` meets its contract: one that breaks no rule leads, another changes nothing.
use mathlib.Core.Path.{sym, ◌∙◌}
use native.Mathlib.Omega.{arith}
use Rattle.sites.proofs.SiteLaws.{site_broken, site-leads, site_led}
use Rattle.clashes.proofs.lead_site.Goals as goal

pub returns-then-kept_code-eq0 : goal.returns-then-kept_code-eq0
returns-then-kept_code-eq0 c =
    let file = c.args.file.now in
    let low = c.requires.le_k in
    record {
      kept_2 = c.kept_code.ensures.kept_2;
      by_index = λ who part none so_far.
          let good = sym c.kept_code.ensures.value ∙ c.if-kept_code-eq0.true in
          let put = c.lead.ensures who (site-leads file who c.args.k low.0 part none good) (rw c.kept_code.ensures.rest.0 so_far.chains) in
          rw c.kept_code.ensures.rest.1 (site_led file who c.args.k low.0 part none c.args.sites.now _ _ (omega (arith, low.1)) put so_far);
    }

pub returns-else-kept_code-eq0 : goal.returns-else-kept_code-eq0
returns-else-kept_code-eq0 c = record {
  kept_2 = c.kept_code.ensures.kept_2;
  by_index = λ who part none so_far.
      site_broken c.args.file.now who c.args.k c.requires.le_k.0 part _ (λ z. c.if-kept_code-eq0.false (c.kept_code.ensures.value ∙ z))
      (record { chains = rw c.kept_code.ensures.rest.0 so_far.chains; elsewhere = rw c.kept_code.ensures.rest.1 so_far.elsewhere });
}
