-- The letters that the code asks for are the bytes that whole numbers admit.
use mathlib.Core.Path.{◌≡◌, refl}
use mathlib.Core.Bool.{Bool, true, false, ◌&&◌, ◌||◌}
use mathlib.Core.List.{List}
use Prim.Native.Nat.{ℕ}
use Rattle.columns.specs.Sets.{is, among, is_digit}
use Rattle.columns.specs.Texts.{bytes}
use Rattle.flaws.specs.Flaws.{letter_of, unread}
use Rattle.flaws.proofs.SetsAlike.{Bytes, far_or, far_is, far_between, far_among, by_letters}
use Rattle.numerals.specs.Numbers.{admits_whole}

pub whole_far : (sign : Bool) → Bytes (admits_whole sign)
unfolding admits_whole
whole_far sign c h =
    far_or (is_digit c || is " " c) (sign && among "+-" c) (far_or (is_digit c) (is " " c) (far_between "0" "9" tt c h) (far_is " " tt c h)) (by sign) where
      by : (b : Bool) → (b && among "+-" c) ≡ false
      by true = far_among "+-" tt c h
      by false = refl

pub plain-whole : (p : List ℕ) → unread (letter_of (bytes "0123456789 ")) p ≡ unread (admits_whole false) p
unfolding admits_whole among letter_of
plain-whole p = by_letters (admits_whole false) (bytes "0123456789 ") (whole_far false) tt tt p

pub signed-whole : (p : List ℕ) → unread (letter_of (bytes "0123456789+- ")) p ≡ unread (admits_whole true) p
unfolding admits_whole among letter_of
signed-whole p = by_letters (admits_whole true) (bytes "0123456789+- ") (whole_far true) tt tt p
