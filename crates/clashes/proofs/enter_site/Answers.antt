-- `clashes::enter_site` meets its contract: the site is new, or the station stands as its first does, or it does not.
use mathlib.Core.Path.{sym, ◌∙◌}
use native.Mathlib.Omega.{arith}
use Rattle.sites.proofs.SiteLaws.{bearer_most, none_elsewhere, site-alike, site_unlike}
use Rattle.clashes.proofs.enter_site.Goals as goal

pub first_bearer-found-requires : goal.first_bearer-found-requires
first_bearer-found-requires c =
    let some = c.requires.some_sites in
    record {
      has_record = c.requires.has_record;
      le_k = c.requires.le_k;
      chained = record { who = some.who; chains = some.sites.chains };
    }

pub returns-then-found-eq0 : goal.returns-then-found-eq0
returns-then-found-eq0 c = record {
  kept_2 = c.lead_site.ensures.kept_2;
  by_index = λ who part so_far.
      let none = sym (c.first_bearer-found.ensures who so_far.chains) ∙ c.if-found-eq0.true in
      (none_elsewhere c.args.file.now who c.args.k c.requires.le_k.0 part none, c.lead_site.ensures.by_index who part none so_far);
}

pub alike-requires : goal.alike-requires
alike-requires c =
    let some = c.requires.some_sites in
    let e = c.first_bearer-found.ensures some.who some.sites.chains in
    let low = bearer_most c.args.file.now some.who c.args.k c.requires.le_k.0 in
    (omega (arith, e, low, c.requires.has_record), c.requires.has_record)

pub bounds-sites-leader : goal.bounds-sites-leader
bounds-sites-leader c =
    let some = c.requires.some_sites in
    let e = c.first_bearer-found.ensures some.who some.sites.chains in
    let low = bearer_most c.args.file.now some.who c.args.k c.requires.le_k.0 in
    omega (arith, e, low, c.requires.le_k.1)

pub returns-then-alike : goal.returns-then-alike
returns-then-alike c = record {
  kept_2 = c.requires.kept;
  by_index = λ who part so_far.
      site-alike c.args.file.now who c.args.k c.requires.le_k.0 part c.first_bearer-found.result (omega arith) (sym (c.first_bearer-found.ensures who so_far.chains)) c.args.sites.now
      (sym c.alike.ensures ∙ c.if-alike.true) so_far;
}

pub note_second-requires : goal.note_second-requires
note_second-requires c =
    let some = c.requires.some_sites in
    let e = c.first_bearer-found.ensures some.who some.sites.chains in
    let low = bearer_most c.args.file.now some.who c.args.k c.requires.le_k.0 in
    record {
      has_record = c.requires.has_record;
      le_k = (c.requires.le_k.0, c.requires.le_k.1, omega arith, omega (arith, e, low, c.requires.le_k.1));
      kept = c.requires.kept;
    }

pub returns : goal.returns
returns c = record {
  kept_2 = c.note_second.ensures.kept_2;
  by_index = λ who part so_far.
      let e = sym (c.first_bearer-found.ensures who so_far.chains) in
      let other = sym c.alike.ensures ∙ c.if-alike.false in
      site_unlike c.args.file.now who c.args.k c.requires.le_k.0 part c.first_bearer-found.result (omega arith) e c.args.sites.now _ c.note_second.ensures.rest other (c.note_second.ensures.by_index who part e other so_far.elsewhere) so_far;
}
