-- What a check that answered 0 tells its caller. Assumes nothing.
use Prim.Native.Nat.{ℕ, ◌<◌, ◌≤◌}
use mathlib.Core.Path.{◌≡◌}
use mathlib.Core.Bool.{true, ◌&&◌}
use mathlib.Core.List.{List}
use lib.Dec.{eqb, leb}
use lib.ListN.{length, get_or}
use borrow.Author.Tests.{leb-true, eqb-true}
use Rattle.float.proofs.Cases.{and_left, and_right}
use Rattle.vector.specs.Lists.{el, every}
use Rattle.vector.proofs.Lists.{every_at}
use Rattle.tableau.specs.declared.Counts.{Counts}
use Rattle.tableau.specs.Tableau.{Tableau, in_range, how_many, allowed, allowed_at, valid}
use Rattle.tableau.specs.File.{place, header, number, counts_of, tableau_of, matches, accepts}

pub record InRange (k : Counts) : Type 0 where
  pub least : 1 ≤ k.stages
  pub most : k.stages ≤ 8
  pub kind_in : k.kind ≤ 1
  pub estimator_in : k.estimator ≤ 1
  pub btilde_in : k.btilde ≤ 1

pub record Valid (t : Tableau) : Type 0 where
  pub counts_in_range : InRange t.counts
  pub many : length t.coefficients ≡ how_many t.counts
  pub each_allowed : (i : ℕ) → i < length t.coefficients → allowed (el t.coefficients i) ≡ true

pub record Accepted (file : List ℕ) : Type 0 where
  pub tableau : Valid (tableau_of file)
  pub long : length file ≡ place (how_many (counts_of file))
  pub number_at : (i : ℕ) → i < 12 → number file i ≡ get_or (header (counts_of file)) i 0

pub is_in_range : (k : Counts) → in_range k ≡ true → InRange k
unfolding in_range
is_in_range k h =
    let s = k.stages in
    let l = and_left (leb 1 s && leb s 8) _ h in
    let r = and_right (leb 1 s && leb s 8) _ h in
    let q = and_right (leb k.kind 1) (leb k.estimator 1 && leb k.btilde 1) r in
    record {
      least = leb-true 1 s (and_left (leb 1 s) (leb s 8) l);
      most = leb-true s 8 (and_right (leb 1 s) (leb s 8) l);
      kind_in = leb-true k.kind 1 (and_left (leb k.kind 1) (leb k.estimator 1 && leb k.btilde 1) r);
      estimator_in = leb-true k.estimator 1 (and_left (leb k.estimator 1) (leb k.btilde 1) q);
      btilde_in = leb-true k.btilde 1 (and_right (leb k.estimator 1) (leb k.btilde 1) q);
    }

pub is_valid : (t : Tableau) → valid t ≡ true → Valid t
unfolding valid allowed_at
is_valid t h =
    let xs = t.coefficients in
    let m = eqb (length xs) (how_many t.counts) in
    let a = every (length xs) (allowed_at xs) in
    let r = and_right (in_range t.counts) (m && a) h in
    record {
      counts_in_range = is_in_range t.counts (and_left (in_range t.counts) (m && a) h);
      many = eqb-true (length xs) (how_many t.counts) (and_left m a r);
      each_allowed = λ i l. every_at (allowed_at xs) (length xs) i (and_right m a r) l;
    }

pub is_accepted : (file : List ℕ) → accepts file ≡ true → Accepted file
unfolding accepts matches
is_accepted file h =
    let k = counts_of file in
    let l = eqb (length file) (place (how_many k)) in
    let o = every 12 (matches file (header k)) in
    let r = and_right (valid (tableau_of file)) (l && o) h in
    record {
      tableau = is_valid (tableau_of file) (and_left (valid (tableau_of file)) (l && o) h);
      long = eqb-true (length file) (place (how_many k)) (and_left l o r);
      number_at = λ i q. eqb-true (number file i) (get_or (header k) i 0) (every_at (matches file (header k)) 12 i (and_right l o r) q);
    }
