-- `sites::KeptSites::kept_code` meets its contract: the code that is kept is right, and so is the one that is kept now.
use mathlib.Core.Path.{refl}
use Rattle.sites.proofs.KeptLaws.{one_kept}
use Rattle.sites.proofs.KeptSites.kept_code.Goals as goal

pub returns-then-held : goal.returns-then-held
returns-then-held c = record {
  value = c.requires.kept.right c.args.k c.requires.k_le_most_stations c.if-held.true;
  kept_2 = c.requires.kept;
  rest = (refl, refl);
}

pub returns : goal.returns
returns c = record {
  value = c.code-own.ensures;
  kept_2 = one_kept c.args.file.now c.args.self.now.codes c.args.k _ c.requires.k_le_most_stations c.code-own.ensures c.requires.kept;
  rest = (refl, refl);
}
