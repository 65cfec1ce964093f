-- The matrix of the stages and its factors in an open attempt conform to those of its step. Assumes nothing.
use Prim.Native.Nat.{ℕ, ◌*◌}
use native.Mathlib.Omega.{arith}
use mathlib.Core.Path.{◌≡◌, refl, ap, ◌∙◌}
use mathlib.Core.Bool.{true}
use mathlib.Core.List.{List, [], ◌++◌}
use mathlib.Core.Logic.{inr}
use lib.ListN.{length}
use lib.Ieee.{Float}
use Rattle.vector.specs.Lists.{all_finite}
use Rattle.vector.specs.Parts.{part}
use Rattle.vector.proofs.Parts.{puts_all}
use Rattle.std.specs.Prelude.{Result, Ok, Err, is_ok, ⊤}
use Rattle.stepping.specs.declared.Refusal.{Refusal}
use Rattle.linear.specs.Elimination.{eliminated, pivot_of}
use Rattle.linear.specs.Calls.{raw_of}
use Rattle.linear.proofs.Outcomes.{length-eliminated, raw_answer, raw_succeeds}
use Rattle.tableau.specs.Tableau.{stages_of}
use Rattle.stages.specs.Layout.{factors_at}
use Rattle.stages.specs.Memory.{with_matrix, with_factors}
use Rattle.stages.proofs.Writes.{matrix_length, matrix_written, factors_written}
use Rattle.attempts.specs.Marks.{counting}
use Rattle.attempts.specs.Attempt.{Scratch, on_work, on_marks, factor}
use Rattle.rosenbrock.specs.Calls.{given_by}
use Rattle.method.specs.Step.{Attempted, Evaluated, matrix}
use Rattle.method.specs.Schedule.{matrix_items, stages_items, end_items}
use Rattle.method.proofs.Conforms.{Open, step_in, given_in, Conforms, goes_on}
use Rattle.method.proofs.Holds.{But, stored, Inputs, Sums, no_rows, sums_kept, inputs_kept}
use Rattle.method.proofs.Solving.{Solving}
use Rattle.method.proofs.Stages.{first_stage_lem}

module _ (p : Attempted) (e : Evaluated) (s : ℕ) (w : List Float) (sums : Sums p e s 0 w) (inputs : Inputs p e w) where
  abbrev v : List Float
  v = with_matrix p.n p.tableau p.h w

  matrix_there : part (factors_at p.n) (p.n * p.n) v ≡ matrix p e
  unfolding matrix
  matrix_there = let long = sums.long in matrix_written p.n s p.tableau w p.h e.J (omega arith) inputs.jacobian_there

  length_matrix : length (matrix p e) ≡ p.n * p.n
  unfolding matrix
  length_matrix = matrix_length p.tableau p.h p.n e.J

  -- where the elimination succeeds, the first stage may begin
  factored : (pivots : List ℕ) → length pivots ≡ p.n → (raw_of p.n (matrix p e) pivots).answer ≡ Ok tt
      → Solving p e s 0 0 0 (with_factors p.n pivots v) (raw_of p.n (part (factors_at p.n) (p.n * p.n) v) pivots).pivots
  unfolding with_matrix with_factors
  factored pivots rows done =
      let n = p.n in
      let a = matrix p e in
      let long = sums.long in
      let o = raw_succeeds n a pivots done in
      let but : But (factors_at n) (n * n) w v = stored w (factors_at n) _ (n * n) in
      let but₂ : But (factors_at n) (n * n) v (with_factors n pivots v) = stored v (factors_at n) _ (n * n) in
      let long₁ = but.same_length in
      record {
        sums = sums_kept but₂ (sums_kept but sums (omega arith)) (omega arith);
        rows = no_rows p e s _;
        inputs = inputs_kept but₂ (omega arith) (inputs_kept but (omega arith) inputs (inr (omega arith)) (inr (omega arith))) (inr (omega arith)) (inr (omega arith));
        factors =
            record {
              factors_there =
                  factors_written n s p.tableau v pivots (eliminated n a n) (omega arith)
                  (ap (λ (l : List Float). (raw_of n l pivots).matrix) matrix_there ∙ o.matrix) (length-eliminated n a n length_matrix);
              pivots_there = ap (λ (l : List Float). (raw_of n l pivots).pivots) matrix_there ∙ o.pivots ∙ puts_all pivots (pivot_of n a) n 0 rows;
            };
      }

succeeded : (r : Result ⊤ Refusal) → is_ok r ≡ true → r ≡ Ok tt
succeeded (Ok x) h = refl
succeeded (Err refusal) h = cc

module _ (o : Open) where
  abbrev p : Attempted
  p = step_in o

  pub factors : (sc : Scratch) → Sums p o.e o.fx.s 0 sc.work → Inputs p o.e sc.work → length sc.pivots ≡ o.fx.n
      → Conforms o (matrix_items p o.e ++ (stages_items p o.e 0 (stages_of p.tableau) ++ end_items p o.e)) (factor (given_in o) sc)
  unfolding factor matrix_items on_work on_marks counting given_by
  factors sc sums inputs rows =
      let n = o.fx.n in
      let a = matrix p o.e in
      let there = matrix_there p o.e o.fx.s sc.work sums inputs in
      let same = raw_answer n a sc.pivots [] in
      goes_on _ (ap all_finite there)
      (λ _.
      goes_on _
      (ap (λ (l : List Float). is_ok (raw_of n l sc.pivots).answer) there ∙ ap (λ (r : Result ⊤ Refusal). is_ok r) same)
      (λ done. first_stage_lem o _
      (factored p o.e o.fx.s sc.work sums inputs sc.pivots rows (same ∙ succeeded _ done))))
