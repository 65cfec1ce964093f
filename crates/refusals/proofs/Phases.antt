-- What the record waits for, and the tests of its request. Assumes nothing.
use Prim.Native.Nat.{ℕ, zero, suc, ◌≤◌}
use native.Mathlib.Omega.{arith}
use mathlib.Core.Path.{◌≡◌, refl}
use mathlib.Core.Bool.{true, false}
use Rattle.std.specs.Prelude.{Result, Ok, Err, ⊤}
use Rattle.stepping.specs.declared.Refusal.{Refusal}
use Rattle.stepping.specs.Refusals.{unless_refused}
use borrow.Author.Tests.{le-leb, ne_eqb}
use Rattle.attempts.specs.declared.Ask.{Ask}
use Rattle.refusals.specs.declared.Phase.{Phase}
use Rattle.refusals.specs.declared.Phase.TheVariants.{Idle, Pending, Open}
use Rattle.refusals.specs.Requests.{is_pending, is_open, ask_of, phase_of}

-- the record waits for what is asked, a decision, or nothing
pub record IsOpen (request stage : ℕ) (a : Ask) : Type 0 where
  pub of_open : is_open request ≡ true
  pub of_pending : is_pending request ≡ false
  pub asks : ask_of request stage ≡ a

pub record IsPending (request : ℕ) : Type 0 where
  pub of_open : is_open request ≡ false
  pub of_pending : is_pending request ≡ true

pub record IsIdle (request : ℕ) : Type 0 where
  pub of_open : is_open request ≡ false
  pub of_pending : is_pending request ≡ false

module _ (request stage : ℕ) where
  -- from 2 on something is asked
  later : {P : Phase} → 2 ≤ request → phase_of request stage ≡ P → Open (ask_of request stage) ≡ P
  unfolding phase_of
  later h e = let a = ne_eqb request 0 (λ z. omega arith) in let b = ne_eqb request 1 (λ z. omega arith) in simp (a, b) at e

pub open_told : (request stage : ℕ) {a : Ask} → phase_of request stage ≡ Open a → IsOpen request stage a
unfolding phase_of is_open is_pending
open_told zero stage e = absurd cc
open_told (suc zero) stage e = absurd cc
open_told (suc (suc k)) stage e =
    let f = later (suc (suc k)) stage (omega arith) e in
    record { of_open = le-leb 2 (suc (suc k)) (omega arith); of_pending = ne_eqb (suc (suc k)) 1 (λ z. omega arith); asks = cc }

pub pending_told : (request stage : ℕ) → phase_of request stage ≡ Pending → IsPending request
unfolding phase_of is_open is_pending
pending_told zero stage e = absurd cc
pending_told (suc zero) stage e = record { of_open = refl; of_pending = refl }
pending_told (suc (suc k)) stage e = let f = later (suc (suc k)) stage (omega arith) e in absurd cc

pub idle_told : (request stage : ℕ) → phase_of request stage ≡ Idle → IsIdle request
unfolding phase_of is_open is_pending
idle_told zero stage e = record { of_open = refl; of_pending = refl }
idle_told (suc zero) stage e = absurd cc
idle_told (suc (suc k)) stage e = let f = later (suc (suc k)) stage (omega arith) e in absurd cc

-- the tests refuse, or they pass, with what then is answered
pub refuses : {A : Type 0} (k : Result ⊤ Refusal) (x : A) {r : Refusal} → unless_refused Err k (Ok x) ≡ Err r → k ≡ Err r
unfolding unless_refused
refuses (Ok z) x e = absurd cc
refuses (Err s) x e = cc

pub answered : {A : Type 0} (k : Result ⊤ Refusal) (x : A) {y : A} → unless_refused Err k (Ok x) ≡ Ok y → (k ≡ Ok tt) × (x ≡ y)
unfolding unless_refused
answered (Ok z) x e = (refl, cc)
answered (Err r) x e = absurd cc
