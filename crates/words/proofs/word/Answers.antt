-- `words::word` meets its contract: byte by byte.
use Rattle.words.proofs.WordLaws.{word_bytes}
use borrow.Author.Rules.{rules}
use Rattle.words.proofs.word.Goals as goal

pub returns : goal.returns
returns c =
    cc (word_bytes c.args.s.now c.args.at (search rules))
