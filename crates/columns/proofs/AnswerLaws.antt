-- What a test decides where its answer r is a rule's t.
use mathlib.Core.Path.{◌≡◌, sym, ◌∙◌}
use mathlib.Core.Bool.{Bool, true, false, not}
use borrow.Author.Tests.{not-true, not-false}

-- after `if ..`, the rule answers what was found
pub told : {r t b : Bool} → r ≡ t → r ≡ b → t ≡ b
told e h = sym e ∙ h

-- after `if !..`, the rule is kept where the test was left
pub passed : {r t : Bool} → r ≡ t → not r ≡ false → t ≡ true
passed {r} e h = told e (not-false r h)

-- and broken where it was taken
pub failed : {r t : Bool} → r ≡ t → not r ≡ true → t ≡ false
failed {r} e h = told e (not-true r h)
