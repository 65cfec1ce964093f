-- The continuous output of a Rosenbrock step between two accepted states: Hairer and Wanner, Solving Ordinary Differential Equations II, IV.7, in the
-- form of their code RODAS. With θ = (t − t₀) / (t₁ − t₀), component i at t is (1 − θ)·y₀ + θ·(y₁ + (1 − θ)·(c₀ + θ·(c₁ + ..))), in IEEE 754 binary64, each
-- operation rounded once. Definitions only.
use Rattle.std.specs.Prelude.{ℕ, zero, suc, ◌-◌, cond, List, length, Float}
use Rattle.std.specs.Float.Ieee.{eq}
use Rattle.float.specs.Operators.{◌⊕◌, ◌⊖◌, ◌⊗◌, ◌⊘◌, 𝟏}
use Rattle.vector.specs.Lists.{el}
use Rattle.vector.specs.Matrices.{entry}

-- corrections: a matrix of as many rows as the order says
pub record Segment : Type 0 where
  pub start_time : Float
  pub end_time : Float
  pub start_state : List Float
  pub end_state : List Float
  pub corrections : List Float
  pub order : ℕ

abbrev pub segment : Float → Float → List Float → List Float → List Float → ℕ → Segment
segment t₀ t₁ y₀ y₁ c k = record { start_time = t₀; end_time = t₁; start_state = y₀; end_state = y₁; corrections = c; order = k }

-- how many components
abbrev pub size : Segment → ℕ
size s = length s.start_state

-- where a time lies, from 0 to 1
unfoldable pub theta : Segment → Float → Float
theta s time = (time ⊖ s.start_time) ⊘ (s.end_time ⊖ s.start_time)

-- Horner's scheme: c r + θ·(c (r + 1) + .. + θ·c (r + k))
unfoldable pub horner : (ℕ → Float) → Float → ℕ → ℕ → Float
horner c θ r zero = c r
horner c θ r (suc k) = c r ⊕ θ ⊗ horner c θ (suc r) k

-- the polynomial of component i, of n: its corrections stand one below the other
unfoldable pub polynomial : List Float → ℕ → ℕ → Float → ℕ → Float
polynomial c order n θ i = horner (λ r. entry n c r i) θ 0 (order - 1)

-- between y₀ and y₁, with p for the polynomial
unfoldable pub blend : Float → Float → Float → Float → Float
blend θ y₀ y₁ p = (𝟏 ⊖ θ) ⊗ y₀ ⊕ θ ⊗ (y₁ ⊕ (𝟏 ⊖ θ) ⊗ p)

-- component i at θ
unfoldable pub inside : List Float → List Float → List Float → ℕ → Float → ℕ → Float
inside y₀ y₁ c order θ i = blend θ (el y₀ i) (el y₁ i) (polynomial c order (length y₀) θ i)

-- component i at a time: at either end it is the state's
unfoldable pub component : Segment → Float → ℕ → Float
component s time i =
    cond (eq time s.start_time) (el s.start_state i)
    (cond (eq time s.end_time) (el s.end_state i)
    (inside s.start_state s.end_state s.corrections s.order (theta s time) i))
