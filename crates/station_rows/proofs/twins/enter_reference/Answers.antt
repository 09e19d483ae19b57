-- `station_rows::twins::enter_reference` meets its contract: a station without a bearer of its 13X before it leads.
use mathlib.Core.Path.{sym, ◌∙◌}
use Rattle.chains.proofs.ChainLaws.{is_leading, later_leads_none, left_out}
use Rattle.sheet.specs.Entered.{by_reference}
use Rattle.station_rows.proofs.twins.enter_reference.Goals as goal

pub returns-then-found-eq0 : goal.returns-then-found-eq0
returns-then-found-eq0 c parts here so_far =
    let found = c.first_bearer-found.ensures parts so_far in
    (found, c.lead.ensures parts (is_leading (by_reference parts c.args.file.now) c.args.k here (sym found ∙ c.if-found-eq0.true)) so_far)

pub returns-else-found-eq0 : goal.returns-else-found-eq0
returns-else-found-eq0 c parts here so_far =
    let found = c.first_bearer-found.ensures parts so_far in (
      found,
      left_out (by_reference parts c.args.file.now) c.args.references.now c.args.k c.requires.le_k.0 so_far (later_leads_none (by_reference parts c.args.file.now) c.args.k (λ z. c.if-found-eq0.false (found ∙ z))),
    )
