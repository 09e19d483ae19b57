-- The promise of running a trace leaves one answer and one content of the lent bytes.
use mathlib.Core.Path.{◌≡◌, sym, ◌∙◌}
use mathlib.Core.List.{List}
use Prim.Native.Nat.{ℕ}
use Rattle.replaying.specs.Promises.{TraceReplayed}
use Rattle.replaying.specs.declared.running.Replayed.{Replayed}

-- Two runs of one trace from one file and one sheet.
pub one_replay : (file sheet trace : List ℕ) (a b : Replayed) (f g x y : List ℕ) → TraceReplayed file sheet trace a f x → TraceReplayed file sheet trace b g y
    → (a ≡ b) × (f ≡ g) × (x ≡ y)
one_replay file sheet trace a b f g x y p q = (
  λ i. record { outcome = (p.0 ∙ sym q.0) i; accepted = (p.1 ∙ sym q.1) i; refused = (p.2 ∙ sym q.2) i; stopped = (p.3 ∙ sym q.3) i },
  p.4 ∙ sym q.4,
  p.5 ∙ sym q.5,
)
