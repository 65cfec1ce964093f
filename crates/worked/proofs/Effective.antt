-- The runs of specs/Effective, by computation. Assumes nothing.
use mathlib.Core.Path.{refl}
use Rattle.worked.proofs.Opened.{computing}
use Rattle.worked.specs.Effective.{at_one, at_start, SmallIsMade, SmallStep, SmallRuns, EffectiveIsMade, FirstStep, SecondStep, ThirdStep, EffectiveRuns}
use Rattle.worked.specs.Pond.{file, lent}

pub small_is_made : SmallIsMade
unfolding computing file lent at_one
small_is_made = refl

pub small_step : SmallStep
unfolding computing file lent at_one
small_step = refl

pub small_runs : SmallRuns
unfolding computing file lent at_one
small_runs = refl

pub is_made : EffectiveIsMade
unfolding computing file lent at_start
is_made = refl

pub first_step : FirstStep
unfolding computing file lent at_start
first_step = refl

pub second_step : SecondStep
unfolding computing file lent at_start
second_step = refl

pub third_step : ThirdStep
unfolding computing file lent at_start
third_step = refl

pub effective_runs : EffectiveRuns
unfolding computing file lent at_start
effective_runs = refl
