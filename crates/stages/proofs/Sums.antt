-- Multiples that are added up: one more of them, in a part of the work and in a vector apart from it. Assumes nothing.
use Prim.Native.Nat.{ℕ, zero, suc, ◌+◌, ◌*◌, ◌<◌, ◌≤◌}
use native.Mathlib.Numerals.{add-one}
use native.Mathlib.Omega.{arith}
use mathlib.Core.Path.{◌≡◌, refl, sym, ap, ◌∙◌}
use mathlib.Core.Bool.{true, false}
use mathlib.Core.List.{List}
use mathlib.Core.Logic.{inr}
use lib.ListN.{length, get_or, set}
use lib.Seq.{get_or-set_other}
use lib.Ieee.{Float, nan, eq, ne}
use Rattle.float.specs.Operators.{◌⊕◌, ◌⊗◌, 𝟎}
use Rattle.vector.specs.Lists.{el}
use Rattle.vector.specs.Parts.{puts}
use Rattle.vector.proofs.Stores.{puts_left, puts_held, puts_same, puts_own, puts_again}
use Rattle.stages.specs.Method.{plus_multiple, plus_multiples}
use Rattle.stages.specs.Layout.{stage_at}
use Rattle.stages.specs.Memory.{component, stage_in}

-- ---- one multiple
pub multiple_added : (v c x : Float) → eq c 𝟎 ≡ false → v ⊕ c ⊗ x ≡ plus_multiple v c x
unfolding plus_multiple ne
multiple_added v c x h = rw h

pub multiple_skipped : (v c x : Float) → eq c 𝟎 ≡ true → v ≡ plus_multiple v c x
unfolding plus_multiple ne
multiple_skipped v c x h = rw h

-- a store at an earlier place
pub get_or_set_before : (w : List Float) (i j : ℕ) (v d : Float) → i < j → get_or (set w i v) j d ≡ get_or w j d
get_or_set_before w i j v d h = get_or-set_other w i j v d (λ e. omega arith)

-- ---- several
pub sum_none : (c x : ℕ → Float) (v : Float) → v ≡ plus_multiples c x v 0
unfolding plus_multiples
sum_none c x v = refl

pub sum_more : (c x : ℕ → Float) (v : Float) (j : ℕ) {s a y : Float} → s ≡ plus_multiples c x v j → a ≡ c j → y ≡ x j → plus_multiple s a y ≡ plus_multiples c x v (j + 1)
unfolding plus_multiples
sum_more c x v j e f g = rw (add-one, e, f, g)

pub sum_same : (c x y : ℕ → Float) {v u : Float} (i : ℕ) → ((j : ℕ) → j < i → x j ≡ y j) → v ≡ u → plus_multiples c x v i ≡ plus_multiples c y u i
unfolding plus_multiples
sum_same c x y zero h e = e
sum_same c x y {v} {u} (suc i) h e =
    let r : plus_multiples c x v i ≡ plus_multiples c y u i = sum_same c x y i (λ j l. h j (omega arith)) e in
    let q : x i ≡ y i = h i (omega arith) in
    rw (r, q)

-- the multiple of a vector by a zero is not added to the one at `to`
pub none_added : (w : List Float) (to n : ℕ) (c : Float) (x : ℕ → Float) → eq c 𝟎 ≡ true → w ≡ puts w to (λ k. plus_multiple (component w to k) c (x k)) n
none_added w to n c x h =
    sym (puts_own nan w to n) ∙ puts_same w to (component w to) (λ k. plus_multiple (component w to k) c (x k)) n (λ k l. multiple_skipped (component w to k) c (x k) h)

-- ---- sums in a part of the work: multiples of the stages, added to the vector at `to`
module _ (w : List Float) (to n : ℕ) (c : ℕ → Float) where
  abbrev pub summed : ℕ → ℕ → Float
  summed j k = plus_multiples c (λ i. stage_in n w i k) (component w to k) j

  -- none yet
  pub summed_none : w ≡ puts w to (summed 0) n
  summed_none =
      sym (puts_own nan w to n) ∙ puts_same w to (component w to) (summed 0) n (λ k l. sum_none c (λ i. stage_in n w i k) (component w to k))

  -- one more
  pub summed_more : (j : ℕ) (a : Float) → to + n ≤ 8 * n → to + n ≤ length w → a ≡ c j
      → {v x : List Float} {m : ℕ} → m ≡ n → v ≡ puts w to (summed j) n → x ≡ puts v to (λ k. plus_multiple (component v to k) a (stage_in m v j k)) m → x ≡ puts w to (summed (j + 1)) n
  summed_more j a b h e {v} {x} {m} r p q =
      let f : ℕ → Float = λ k. plus_multiple (component v to k) a (stage_in n v j k) in
      let y : x ≡ puts v to f n = rw r at q in
      y ∙ puts_same v to f (summed (j + 1)) n
      (λ k i. sum_more c (λ z. stage_in n w z k) (component w to k) j
      (ap (λ (z : List Float). component z to k) p ∙ puts_held nan w to (summed j) n k h i) e
      (ap (λ (z : List Float). stage_in n z j k) p ∙ puts_left nan w to (summed j) n (stage_at n j + k) (inr (omega arith))))
      ∙ ap (λ (z : List Float). puts z to (summed (j + 1)) n) p
      ∙ puts_again w to (summed j) (summed (j + 1)) n

  -- all of them, on what was stored before
  pub summed_after : (f : ℕ → Float) (i : ℕ) → to + n ≤ 8 * n → to + n ≤ length w → {v x : List Float} {a b l m : ℕ} → a ≡ to → l ≡ n → v ≡ puts w a f l
      → b ≡ to → m ≡ n → x ≡ puts v b (λ k. plus_multiples c (λ j. stage_in m v j k) (component v b k) i) m → x ≡ puts w to (λ k. plus_multiples c (λ j. stage_in n w j k) (f k) i) n
  summed_after f i o h {v} {x} {a} {b} {l} {m} ea el p eb em q =
      let g : ℕ → Float = λ k. plus_multiples c (λ j. stage_in n v j k) (component v to k) i in
      let e : ℕ → Float = λ k. plus_multiples c (λ j. stage_in n w j k) (f k) i in
      let y : x ≡ puts v to g n = rw (eb, em) at q in
      let r : v ≡ puts w to f n = rw (ea, el) at p in
      y ∙ puts_same v to g e n
      (λ k t. sum_same c (λ j. stage_in n v j k) (λ j. stage_in n w j k) i
      (λ j s. ap (λ (z : List Float). stage_in n z j k) r ∙ puts_left nan w to f n (stage_at n j + k) (inr (omega arith)))
      (ap (λ (z : List Float). component z to k) r ∙ puts_held nan w to f n k h t))
      ∙ ap (λ (z : List Float). puts z to e n) r
      ∙ puts_again w to f e n
