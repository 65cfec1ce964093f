-- The lent work, for n components and s stages: eight vectors of n doubles, two matrices of n² and two of s rows of n, one after the other. Definitions only.
use Rattle.std.specs.declared.ops.Range.{Range}
use Rattle.std.specs.Prelude.{ℕ, ◌+◌, ◌*◌, ◌≤◌, ◌<◌, ◌≡◌, List, length, get_or}

abbrev pub candidate_at : ℕ → ℕ
candidate_at n = 0

abbrev pub error_at : ℕ → ℕ
error_at n = n

abbrev pub stage_state_at : ℕ → ℕ
stage_state_at n = 2 * n

-- the derivative at the accepted time and state
abbrev pub current_at : ℕ → ℕ
current_at n = 3 * n

abbrev pub time_partial_at : ℕ → ℕ
time_partial_at n = 4 * n

abbrev pub probe_state_at : ℕ → ℕ
probe_state_at n = 5 * n

abbrev pub probe_rhs_at : ℕ → ℕ
probe_rhs_at n = 6 * n

abbrev pub linear_rhs_at : ℕ → ℕ
linear_rhs_at n = 7 * n

abbrev pub jacobian_at : ℕ → ℕ
jacobian_at n = 8 * n

abbrev pub factors_at : ℕ → ℕ
factors_at n = 8 * n + n * n

-- the stages as they are solved, and stage i of them
abbrev pub stages_at : ℕ → ℕ
stages_at n = 8 * n + 2 * (n * n)

abbrev pub stage_at : ℕ → ℕ → ℕ
stage_at n i = 8 * n + 2 * (n * n) + i * n

-- the derivatives at the stages, and that of stage i
abbrev pub rhs_stages_at : ℕ → ℕ → ℕ
rhs_stages_at n s = 8 * n + 2 * (n * n) + s * n

abbrev pub rhs_stage_at : ℕ → ℕ → ℕ → ℕ
rhs_stage_at n s i = 8 * n + 2 * (n * n) + s * n + i * n

-- how many doubles are needed
unfoldable pub needed_work : ℕ → ℕ → ℕ
needed_work n s = 8 * n + 2 * (n * n) + 2 * (s * n)

-- a part of the work: its first place, and the place after its last
abbrev pub Spans : Range ℕ → ℕ → ℕ → Type 0
Spans r at n = (r.start ≡ at) × (r.end ≡ at + n)

-- ---- the sizes that the code is run at, which its callers test. Products of sizes are facts of their own.

-- n components and s stages
pub record Sizes (n s : ℕ) : Type 0 where
  pub small : n ≤ 32
  pub square : n * n ≤ 1024
  pub few : s ≤ 8
  pub wide : s * n ≤ 256

-- n components and s stages, on a work of that length
pub record Room (n s len : ℕ) : Type 0 where
  pub some : 1 ≤ n
  pub small : n ≤ 32
  pub square : n * n ≤ 1024
  pub few : s ≤ 8
  pub wide : s * n ≤ 256
  pub needed : 8 * n + 2 * (n * n) + 2 * (s * n) ≤ len

-- n pivots, each a row
pub record PivotRows (n : ℕ) (p : List ℕ) : Type 0 where
  pub count : length p ≡ n
  pub within : (k : ℕ) → k < n → get_or p k 0 < n
