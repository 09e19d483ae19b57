-- `flaws::is_letter_of` meets its contract: the library looks for the same byte.
use Rattle.std.proofs.Common.{◌∙◌, sym}
use Rattle.flaws.proofs.LetterLaws.{letter_of-list_any}
use Rattle.flaws.proofs.is_letter_of.Goals as goal

pub returns : goal.returns
returns c = c.contains.ensures.value ∙ sym (letter_of-list_any c.args.letters.now c.args.c)
