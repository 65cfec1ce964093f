-- A step of the elimination: one row from its columns, all rows, the whole matrix. Assumes nothing.
use Prim.Native.Nat.{ℕ, ◌+◌, ◌*◌, ◌<◌, ◌≤◌}
use native.Mathlib.Omega.{arith}
use mathlib.Core.Path.{◌≡◌, refl, sym, ap, ◌∙◌, subst}
use mathlib.Core.Bool.{Bool, cond, ◌&&◌}
use mathlib.Core.List.{List}
use lib.Dec.{ltb, eqb}
use lib.ListN.{length, set}
use lib.Ieee.{Float}
use borrow.Author.Tests.{eqb-true, eqb-false, eq-eqb, ne_eqb, lt-ltb, le-ltb, ltb-true, ltb-false}
use Rattle.float.specs.Operators.{◌⊖◌, ◌⊗◌}
use Rattle.float.proofs.Cases.{by, both}
use Rattle.vector.specs.Matrices.{entry, rows}
use Rattle.vector.proofs.Matrices.{length-rows, rows_at, same_entries, set-entry}
use Rattle.linear.specs.Elimination.{interchange, multiplier, elimination_step, stepped}

-- below i + 1 and not i is below i
ltb_more : (j i : ℕ) → (j ≡ i → ⊥) → ltb j (i + 1) ≡ ltb j i
ltb_more j i h =
    by (ltb j i)
    (λ t. rw (t, lt-ltb j (i + 1) (omega (arith, ltb-true j i t))))
    (λ t. rw (t, le-ltb j (i + 1) (omega (arith, ltb-false j i t, h))))

-- ---- the columns of a row
module _ (n : ℕ) (m₀ : List Float) (i k : ℕ) (g : ℕ → Float) where
  -- right of column k and as far as column j row i has g's values, and the rest is m₀'s
  abbrev pub Written : ℕ → List Float → Type 0
  Written j m = (r c : ℕ) → r < n → c < n → entry n m r c ≡ cond (ltb k c && (ltb c j && eqb r i)) (g c) (entry n m₀ r c)

  pub written_more : (m : List Float) (j : ℕ) {v : Float} → length m ≡ n * n → i < n → k < j → j < n → v ≡ g j
      → Written j m → Written (j + 1) (set m (i * n + j) v)
  written_more m j {v} lm hi hk hj e inv r c hr hc =
      set-entry n m i j r c v lm hi hj hc
      ∙ by (eqb c j)
      (λ t. let q : c ≡ j = eqb-true c j t in
      let old : entry n m r c ≡ entry n m₀ r c = inv r c hr hc ∙ rw (lt-ltb k c (omega arith), le-ltb c j (omega arith)) in
      let new : v ≡ g c = e ∙ ap g (sym q) in
      rw (t, lt-ltb k c (omega arith), lt-ltb c (j + 1) (omega arith)) (by (eqb r i) (λ u. rw u new) (λ u. rw u old)))
      (λ t. let old : cond (eqb r i) (cond (eqb c j) v (entry n m r c)) (entry n m r c) ≡ entry n m r c = by (eqb r i) (λ u. rw (u, t)) (λ u. rw u) in
      old
      ∙ inv r c hr hc
      ∙ ap (λ (b : Bool). cond (ltb k c && (b && eqb r i)) (g c) (entry n m₀ r c)) (sym (ltb_more c j (eqb-false c j t))))

-- what is read for column j of row i: that entry and the one of row k are not written yet
pub read_at : (n : ℕ) (m m₀ : List Float) (i k j : ℕ) (g : ℕ → Float) (f : Float) → k < i → i < n → j < n → Written n m₀ i k g j m
    → entry n m i j ⊖ f ⊗ entry n m k j ≡ entry n m₀ i j ⊖ f ⊗ entry n m₀ k j
read_at n m m₀ i k j g f h hi hj inv =
    let own : entry n m i j ≡ entry n m₀ i j = inv i j hi hj ∙ by (ltb k j) (λ t. rw (t, le-ltb j j (omega arith))) (λ t. rw t) in
    let other : entry n m k j ≡ entry n m₀ k j = inv k j (omega arith) hj ∙ by (ltb k j) (λ t. rw (t, le-ltb j j (omega arith))) (λ t. rw t) in
    cc

-- ---- a row: the multiplier is stored, and its multiple of row k is taken
pub row_done : (n : ℕ) (m₀ m₁ m₂ : List Float) (i k : ℕ) {f : Float} → length m₀ ≡ n * n → k < i → i < n
    → f ≡ multiplier (entry n m₀) i k → m₁ ≡ set m₀ (i * n + k) f
    → ((r c : ℕ) → r < n → c < n → entry n m₂ r c ≡ cond (ltb k c && eqb r i) (entry n m₁ i c ⊖ f ⊗ entry n m₁ k c) (entry n m₁ r c))
    → (r c : ℕ) → r < n → c < n → entry n m₂ r c ≡ cond (eqb r i) (elimination_step k (entry n m₀) r c) (entry n m₀ r c)
row_done n m₀ m₁ m₂ i k {f} lm h hi fe e each r c hr hc =
    let at₁ : (r : ℕ) → entry n m₁ r c ≡ cond (eqb r i) (cond (eqb c k) f (entry n m₀ r c)) (entry n m₀ r c) =
    λ r. ap (λ (z : List Float). entry n z r c) e ∙ set-entry n m₀ i k r c f lm hi (omega arith) hc in
    each r c hr hc
    ∙ by (eqb r i)
    (λ t. let q : r ≡ i = eqb-true r i t in
    let ic : entry n m₁ i c ≡ cond (eqb c k) f (entry n m₀ i c) = at₁ i ∙ rw (eq-eqb i i refl) in
    rw (t, q, lt-ltb k i h)
    (by (ltb k c)
    (λ u. let l : k < c = ltb-true k c u in
    let kc : entry n m₁ k c ≡ entry n m₀ k c = at₁ k ∙ rw (ne_eqb k i (λ z. omega arith)) in
    let ic' : entry n m₁ i c ≡ entry n m₀ i c = ic ∙ rw (ne_eqb c k (λ z. omega arith)) in
    rw (u, le-ltb c k (omega arith), ne_eqb c k (λ z. omega arith)) (cc))
    (λ u. let l : c ≤ k = ltb-false k c u in
    rw u
    (ic
    ∙ by (eqb c k)
    (λ v. let z : c ≡ k = eqb-true c k v in rw (v, le-ltb c k (omega arith)) fe)
    (λ v. rw (v, lt-ltb c k (omega (arith, eqb-false c k v))))))))
    (λ t. let rc : entry n m₁ r c ≡ entry n m₀ r c = at₁ r ∙ rw t in
    rw t (by (ltb k c) (λ u. rw u rc) (λ u. rw u rc)))

-- ---- all rows
-- a step reads four entries
step_same : (a b : ℕ → ℕ → Float) (k i j : ℕ) → a k k ≡ b k k → a k j ≡ b k j → a i k ≡ b i k → a i j ≡ b i j → elimination_step k a i j ≡ elimination_step k b i j
step_same a b k i j kk kj ik ij = cc

-- the rows after k and before i are done
abbrev pub Cleared : ℕ → List Float → ℕ → ℕ → List Float → Type 0
Cleared n m₀ k i m = (r c : ℕ) → r < n → c < n → entry n m r c ≡ cond (ltb k r && ltb r i) (elimination_step k (entry n m₀) r c) (entry n m₀ r c)

module _ (n : ℕ) (m₀ : List Float) (k : ℕ) (hk : k < n) where
  -- row k is kept
  pub cleared_pivot : (i : ℕ) (m : List Float) (c : ℕ) → c < n → Cleared n m₀ k i m → entry n m k c ≡ entry n m₀ k c
  cleared_pivot i m c hc inv = inv k c hk hc ∙ rw (le-ltb k k (omega arith))

  pub cleared_more : (i : ℕ) (m m' : List Float) → k < i → i < n → Cleared n m₀ k i m
      → ((r c : ℕ) → r < n → c < n → entry n m' r c ≡ cond (eqb r i) (elimination_step k (entry n m) r c) (entry n m r c))
      → Cleared n m₀ k (i + 1) m'
  cleared_more i m m' h hi inv each r c hr hc =
      each r c hr hc
      ∙ by (eqb r i)
      (λ t. let q : r ≡ i = eqb-true r i t in
      let own : (j : ℕ) → j < n → entry n m r j ≡ entry n m₀ r j = λ j hj. inv r j hr hj ∙ rw (lt-ltb k r (omega arith), le-ltb r i (omega arith)) in
      let same : elimination_step k (entry n m) r c ≡ elimination_step k (entry n m₀) r c =
      step_same (entry n m) (entry n m₀) k r c (cleared_pivot i m k hk inv) (cleared_pivot i m c hc inv) (own k hk) (own c hc) in
      ap (λ (b : Bool). cond b (elimination_step k (entry n m) r c) (entry n m r c)) t
      ∙ same
      ∙ ap (λ (b : Bool). cond b (elimination_step k (entry n m₀) r c) (entry n m₀ r c)) (sym (both (lt-ltb k r (omega arith)) (lt-ltb r (i + 1) (omega arith)))))
      (λ t. ap (λ (b : Bool). cond b (elimination_step k (entry n m) r c) (entry n m r c)) t
      ∙ inv r c hr hc
      ∙ ap (λ (b : Bool). cond (ltb k r && b) (elimination_step k (entry n m₀) r c) (entry n m₀ r c)) (sym (ltb_more r i (eqb-false r i t))))

-- ---- the matrix: rows k and p are interchanged, and column k is eliminated
pub step_is : (n k p : ℕ) (m₀ m₁ m₂ : List Float) → k < n → length m₂ ≡ n * n
    → ((i j : ℕ) → i < n → j < n → entry n m₁ i j ≡ entry n m₀ (interchange k p i) j)
    → ((i j : ℕ) → i < n → j < n → entry n m₂ i j ≡ elimination_step k (entry n m₁) i j)
    → m₂ ≡ stepped n k p m₀
unfolding stepped
step_is n k p m₀ m₁ m₂ hk l e₁ e₂ =
    let a : ℕ → ℕ → Float = λ i j. entry n m₀ (interchange k p i) j in
    let f = elimination_step k a in
    same_entries n m₂ (rows f n n) l (length-rows f n n)
    (λ i j hi hj.
    e₂ i j hi hj
    ∙ step_same (entry n m₁) a k i j (e₁ k k hk hk) (e₁ k j hk hj) (e₁ i k hi hk) (e₁ i j hi hj)
    ∙ sym (rows_at f n n i j hi hj))

-- the number of rows, by another name
pub carried : {k n : ℕ} (m m' : List Float) (f : (ℕ → ℕ → Float) → ℕ → ℕ → Float) → k ≡ n
    → ((i j : ℕ) → i < k → j < k → entry k m' i j ≡ f (entry k m) i j) → (i j : ℕ) → i < n → j < n → entry n m' i j ≡ f (entry n m) i j
carried m m' f e = subst (λ (z : ℕ). (i j : ℕ) → i < z → j < z → entry z m' i j ≡ f (entry z m) i j) e
