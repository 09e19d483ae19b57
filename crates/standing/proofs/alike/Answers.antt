-- `standing::alike` meets its contract: by the bytes, else by what they say.
use mathlib.Core.Path.{sym}
use Rattle.standing.proofs.alike.Goals as goal

pub returns-then-spelled_alike : goal.returns-then-spelled_alike
returns-then-spelled_alike c = sym (c.spelled_alike.ensures c.if-spelled_alike.true)
