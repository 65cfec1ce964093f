-- Two elements interchanged, and two rows of a matrix, column by column. Assumes nothing.
use Prim.Native.Nat.{ℕ, ◌+◌, ◌*◌, ◌<◌}
use native.Mathlib.Numerals.{add-one}
use native.Mathlib.Omega.{arith}
use mathlib.Core.Path.{◌≡◌, sym, ap, ◌∙◌}
use mathlib.Core.Bool.{cond}
use mathlib.Core.List.{List}
use lib.Dec.{eqb, ltb}
use lib.Arith.{digits_lt}
use lib.ListN.{length, set, get_or, length-set}
use lib.Seq.{get_or-set_same, get_or-set_other}
use lib.Ieee.{Float, nan}
use borrow.Author.Tests.{eqb-true, eqb-false, lt-ltb, le-ltb, ltb-true, ltb-false}
use Rattle.std.specs.List.{swap}
use Rattle.std.proofs.lemmas.List.Edits.{swap_is}
use Rattle.float.proofs.Cases.{by}
use Rattle.vector.specs.Lists.{el}
use Rattle.vector.specs.Matrices.{entry}
use Rattle.vector.proofs.Matrices.{same_row, same_column}
use Rattle.linear.specs.Elimination.{interchange}
use Rattle.linear.specs.Substitution.{exchanged, interchanges}

interchange_below : (k p r n : ℕ) → k < n → p < n → r < n → interchange k p r < n
interchange_below k p r n hk hp hr = by (eqb r p) (λ t. rw t hk) (λ t. rw t (by (eqb r k) (λ u. rw u hp) (λ u. rw u hr)))

-- rows k and p of m₀ interchanged as far as column j
abbrev pub Interchanged : ℕ → ℕ → ℕ → List Float → ℕ → List Float → Type 0
Interchanged n k p m₀ j m = (r c : ℕ) → r < n → c < n → entry n m r c ≡ cond (ltb c j) (entry n m₀ (interchange k p r) c) (entry n m₀ r c)

module _ (n k p : ℕ) (hk : k < n) (hp : p < n) where
  -- entries (k, j) and (p, j) interchanged
  exchanged_at : (m : List Float) (j r c : ℕ) → length m ≡ n * n → j < n → r < n → c < n
      → entry n (exchanged m (k * n + j) (p * n + j)) r c ≡ cond (eqb c j) (entry n m (interchange k p r) c) (entry n m r c)
  exchanged_at m j r c lm hj hr hc =
      let a = k * n + j in
      let b = p * n + j in
      let u = el m a in
      let v = el m b in
      by (eqb c j)
      (λ t. let e : c ≡ j = eqb-true c j t in
      rw (t, e)
      (by (eqb r p)
      (λ t₂. rw (t₂, eqb-true r p t₂) (get_or-set_same (set m a v) b u nan (simp length-set (omega (arith, digits_lt hp hj)))))
      (λ t₂. get_or-set_other (set m a v) b (r * n + j) u nan (λ q. eqb-false r p t₂ (same_row n r j p j hj hj q))
      ∙ rw t₂
      (by (eqb r k)
      (λ t₃. rw (t₃, eqb-true r k t₃) (get_or-set_same m a v nan (omega (arith, digits_lt hk hj))))
      (λ t₃. rw t₃ (get_or-set_other m a (r * n + j) v nan (λ q. eqb-false r k t₃ (same_row n r j k j hj hj q))))))))
      (λ t. rw t
      (get_or-set_other (set m a v) b (r * n + c) u nan (λ q. eqb-false c j t (same_column n r c p j hc hj q))
      ∙ get_or-set_other m a (r * n + c) v nan (λ q. eqb-false c j t (same_column n r c k j hc hj q))))

  interchanged_next : (m₀ m : List Float) (j : ℕ) → length m ≡ n * n → j < n → Interchanged n k p m₀ j m
      → Interchanged n k p m₀ (j + 1) (exchanged m (k * n + j) (p * n + j))
  interchanged_next m₀ m j lm hj inv r c hr hc =
      exchanged_at m j r c lm hj hr hc
      ∙ by (eqb c j)
      (λ t. let e : c ≡ j = eqb-true c j t in
      rw (t, lt-ltb c (j + 1) (omega arith)) (inv (interchange k p r) c (interchange_below k p r n hk hp hr) hc ∙ rw (le-ltb c j (omega arith))))
      (λ t. by (ltb c j)
      (λ t₂. rw (t, lt-ltb c (j + 1) (omega (arith, ltb-true c j t₂))) (inv r c hr hc ∙ rw t₂))
      (λ t₂. rw (t, le-ltb c (j + 1) (omega (arith, ltb-false c j t₂, eqb-false c j t))) (inv r c hr hc ∙ rw t₂)))

  -- as the library interchanges them
  pub interchanged_more : (m₀ m : List Float) (j : ℕ) {m' : List Float} → length m ≡ n * n → j < n → m' ≡ swap m (k * n + j) (p * n + j)
      → Interchanged n k p m₀ j m → Interchanged n k p m₀ (j + 1) m'
  interchanged_more m₀ m j {m'} lm hj e inv r c hr hc =
      ap (λ (x : List Float). entry n x r c) (e ∙ sym (swap_is m (k * n + j) (p * n + j) nan (omega (arith, digits_lt hk hj)) (omega (arith, digits_lt hp hj))))
      ∙ interchanged_next m₀ m j lm hj inv r c hr hc

-- ---- elements of a vector, each with its pivot's
pub interchanges_more : (p : List ℕ) (x₀ x : List Float) (k : ℕ) {x' : List Float} → x ≡ interchanges p x₀ k → k < length x → get_or p k 0 < length x
    → x' ≡ swap x k (get_or p k 0) → x' ≡ interchanges p x₀ (k + 1)
unfolding interchanges
interchanges_more p x₀ x k {x'} e h l f =
    rw add-one (f ∙ sym (swap_is x k (get_or p k 0) nan h l) ∙ ap (λ (y : List Float). exchanged y k (get_or p k 0)) e)
