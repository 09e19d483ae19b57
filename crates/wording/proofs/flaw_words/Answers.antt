-- `wording::flaw_words` meets its contract: the words end in no space, so that they are what is left of them with spaces behind them.
use Rattle.wording.specs.Words.{flaw_words}
use Rattle.wording.proofs.NameLaws.{padding_off, words_whole}
use Rattle.wording.proofs.flaw_words.Goals as goal

pub returns : goal.returns
returns c = padding_off 18 _ _ (flaw_words c.args.flaw) c.padded.ensures c.flaw_text.ensures.upper_bound c.flaw_text.ensures.value (words_whole c.args.flaw)
