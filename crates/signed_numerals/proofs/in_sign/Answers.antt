-- `signed_numerals::in_sign` meets its contract, case by case.
use Rattle.signed_numerals.proofs.in_sign.Goals as goal

pub with_sign-requires : goal.with_sign-requires
with_sign-requires c = rw (← c.unwrap_or.ensures, c.in-Some.is) at c.requires
