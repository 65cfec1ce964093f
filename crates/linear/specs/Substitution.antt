-- The triangular systems of a factored matrix, by elements: Golub and Van Loan, Matrix Computations, 4th edition, Algorithms 3.1.1 (row-oriented forward
-- substitution) and 3.1.2 (row-oriented back substitution), and the interchanges of 3.4.1. Rows and columns are counted from 0, and each operation rounds
-- once. Definitions only.
use Rattle.std.specs.Prelude.{ℕ, zero, suc, ◌+◌, ◌-◌, cond, List, [], ◌∷◌, ◌++◌, ltb, eqb, get_or, set, Float}
use Rattle.float.specs.Operators.{◌⊖◌, ◌⊗◌, ◌⊘◌, 𝟎, 𝟏}
use Rattle.vector.specs.Lists.{el}
use Rattle.vector.specs.Matrices.{entry}

-- the factors L, unit lower triangular, and U, upper triangular, which share the n by n matrix f
abbrev pub lower : ℕ → List Float → ℕ → ℕ → Float
lower n f i j = cond (ltb j i) (entry n f i j) (cond (eqb j i) 𝟏 𝟎)

abbrev pub upper : ℕ → List Float → ℕ → ℕ → Float
upper n f i j = cond (ltb j i) 𝟎 (entry n f i j)

-- x with elements i and j interchanged
abbrev pub exchanged : List Float → ℕ → ℕ → List Float
exchanged x i j = set (set x i (el x j)) j (el x i)

-- x after the interchanges of 0 with p_0, 1 with p_1, .. in that order, the first k of them
unfoldable pub interchanges : List ℕ → List Float → ℕ → List Float
interchanges p x zero = x
interchanges p x (suc k) = exchanged (interchanges p x k) k (get_or p k 0)

-- b - l_0 * y_0 - .. - l_(k-1) * y_(k-1), from the left
unfoldable pub less_products : (ℕ → Float) → (ℕ → Float) → Float → ℕ → Float
less_products l y b zero = b
less_products l y b (suc k) = less_products l y b k ⊖ l k ⊗ y k

-- the first k unknowns of L y = b: y_i = b_i - l_i0 * y_0 - .. - l_i(i-1) * y_(i-1)
unfoldable pub forward_substitution : (ℕ → ℕ → Float) → (ℕ → Float) → ℕ → List Float
unfolding less_products
forward_substitution l b zero = []
forward_substitution l b (suc i) = let y = forward_substitution l b i in y ++ (less_products (l i) (el y) (b i) i ∷ [])

-- the last k of the n unknowns of U x = y: x_i = (y_i - u_i(i+1) * x_(i+1) - .. - u_i(n-1) * x_(n-1)) / u_ii
unfoldable pub back_substitution : ℕ → (ℕ → ℕ → Float) → (ℕ → Float) → ℕ → List Float
unfolding less_products
back_substitution n u y zero = []
back_substitution n u y (suc k) =
    let x = back_substitution n u y k in
    let i = n - suc k in
    (less_products (λ j. u i (i + 1 + j)) (el x) (y i) k ⊘ u i i) ∷ x

-- x with L U x = b, after the interchanges p
unfoldable pub solution : ℕ → List Float → List ℕ → List Float → List Float
unfolding interchanges forward_substitution back_substitution
solution n f p b = back_substitution n (upper n f) (el (forward_substitution (lower n f) (el (interchanges p b n)) n)) n
