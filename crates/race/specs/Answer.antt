-- What one turn of a racer may do.
use Rattle.race.specs.declared.engines.Racer.{Ghosts}
use Rattle.std.specs.Prelude.{◌≡◌, ◌<◌}
use Rattle.race.specs.declared.engines.Progress.{Progress}
use Rattle.race.specs.declared.engines.Progress.TheVariants.{More, Decided, Spent, NoMemory}

module _ {A : Type 0} (kind : Ghosts A) where
  -- the racer r answers p and is then s
  pub record MayAnswer (r : A) (p : Progress) (s : A) : Type 0 where
    pub task_kept : kind.task s ≡ kind.task r
    pub said_now : kind.said s ≡ p
    pub decided : p ≡ Decided → kind.condition (kind.task s)
    pub spent : p ≡ Spent → ¬ (kind.condition (kind.task s))
    pub more : p ≡ More → kind.measure s < kind.measure r
    pub stays_decided : kind.said r ≡ Decided → (p ≡ Decided) × (s ≡ r)
    pub stays_spent : kind.said r ≡ Spent → (p ≡ Spent) × (s ≡ r)
    pub stays_out_of_memory : kind.said r ≡ NoMemory → p ≡ NoMemory
