-- The letters that the code asks for are the bytes that 4C admits.
use mathlib.Core.Path.{◌≡◌}
use mathlib.Core.Bool.{Bool, false, ◌||◌}
use mathlib.Core.List.{List}
use Prim.Native.Nat.{ℕ}
use Rattle.columns.specs.Sets.{among}
use Rattle.columns.specs.Texts.{bytes}
use Rattle.flaws.specs.Flaws.{letter_of, unread}
use Rattle.flaws.proofs.SetsAlike.{Bytes, far_or, far_among, by_letters}
use Rattle.numerals.specs.Numbers.{admits_whole}
use Rattle.numerals.proofs.Letters.{whole_far}
use Rattle.positions.specs.Positions.{admits_position}

position_far : Bytes admits_position
unfolding admits_position
position_far c h = far_or (admits_whole false c || among "EW" c) (among "NS" c) (far_or (admits_whole false c) (among "EW" c) (whole_far false c h) (far_among "EW" tt c h)) (far_among "NS" tt c h)

pub places-letters : (p : List ℕ) → unread (letter_of (bytes "0123456789EWNS ")) p ≡ unread admits_position p
unfolding admits_position admits_whole among letter_of
places-letters p = by_letters admits_position (bytes "0123456789EWNS ") position_far tt tt p
