-- `words::word_of_six` meets its contract: byte by byte.
use Rattle.words.proofs.WordLaws.{six_bytes_in_all}
use Rattle.words.proofs.word_of_six.Goals as goal

pub returns : goal.returns
returns c =
    cc (six_bytes_in_all c.args.s.now c.requires)
