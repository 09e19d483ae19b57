-- `sites::KeptSites::note_second` meets its contract: a second is known, or the station breaks a rule, or it is the second.
use mathlib.Core.Path.{refl, sym, ◌∙◌}
use native.Mathlib.Omega.{arith}
use Rattle.sites.proofs.SiteLaws.{second_known, second_broken, second_good}
use Rattle.sites.proofs.KeptSites.note_second.Goals as goal

pub returns-then-self-leader-ne0 : goal.returns-then-self-leader-ne0
returns-then-self-leader-ne0 c =
    let low = c.requires.le_k in
    record {
      kept_2 = c.requires.kept;
      rest = refl;
      by_index = λ who part found other so_far. second_known c.args.file.now who c.args.k low.0 part c.args.leader low.2 found c.args.self.now.seconds c.if-self-leader-ne0.true so_far;
    }

pub returns-then-own-eq0 : goal.returns-then-own-eq0
returns-then-own-eq0 c =
    let low = c.requires.le_k in
    record {
      kept_2 = c.kept_code-own.ensures.kept_2;
      rest = c.kept_code-own.ensures.rest.0;
      by_index = λ who part found other so_far.
          rw c.kept_code-own.ensures.rest.1
          (second_good c.args.file.now who c.args.k low.0 part c.args.leader low.2 found c.args.self.now.seconds (sym c.kept_code-own.ensures.value ∙ c.if-own-eq0.true) (omega (arith, low.1)) other c.if-self-leader-ne0.false so_far);
    }

pub returns-else-own-eq0 : goal.returns-else-own-eq0
returns-else-own-eq0 c =
    let low = c.requires.le_k in
    record {
      kept_2 = c.kept_code-own.ensures.kept_2;
      rest = c.kept_code-own.ensures.rest.0;
      by_index = λ who part found other so_far.
          rw c.kept_code-own.ensures.rest.1
          (second_broken c.args.file.now who c.args.k low.0 part c.args.leader low.2 found c.args.self.now.seconds (λ z. c.if-own-eq0.false (c.kept_code-own.ensures.value ∙ z)) so_far);
    }
