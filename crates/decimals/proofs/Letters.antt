-- The letters that the code asks for are the bytes that decimals admit.
use mathlib.Core.Path.{◌≡◌}
use mathlib.Core.Bool.{Bool, true, false}
use mathlib.Core.List.{List}
use Prim.Native.Nat.{ℕ}
use Rattle.columns.specs.Sets.{is, among}
use Rattle.columns.specs.Texts.{bytes}
use Rattle.flaws.specs.Flaws.{letter_of, unread}
use Rattle.flaws.proofs.SetsAlike.{Bytes, far_or, far_is, by_letters}
use Rattle.numerals.specs.Numbers.{admits_whole}
use Rattle.numerals.proofs.Letters.{whole_far}
use Rattle.decimals.specs.Decimals.{admits_decimal}

decimal_far : (sign : Bool) → Bytes (admits_decimal sign)
unfolding admits_decimal
decimal_far sign c h = far_or (admits_whole sign c) (is "." c) (whole_far sign c h) (far_is "." tt c h)

pub plain-decimal : (p : List ℕ) → unread (letter_of (bytes "0123456789. ")) p ≡ unread (admits_decimal false) p
unfolding admits_decimal admits_whole among letter_of
plain-decimal p = by_letters (admits_decimal false) (bytes "0123456789. ") (decimal_far false) tt tt p

pub signed_decimal : (p : List ℕ) → unread (letter_of (bytes "0123456789.+- ")) p ≡ unread (admits_decimal true) p
unfolding admits_decimal admits_whole among letter_of
signed_decimal p = by_letters (admits_decimal true) (bytes "0123456789.+- ") (decimal_far true) tt tt p
