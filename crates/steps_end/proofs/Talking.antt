-- The host's answers to an attempt are those of a conversation in which f, J and fₜ answer every request. Assumes nothing.
use Prim.Native.Nat.{ℕ, zero, suc, ◌≤◌}
use native.Mathlib.Omega.{arith}
use mathlib.Core.Path.{◌≡◌, refl, ap, ◌∙◌}
use mathlib.Core.Bool.{Bool, true, false}
use mathlib.Core.List.{List, [], ◌∷◌}
use lib.ListN.{length}
use lib.Ieee.{Float}
use Rattle.refusals.specs.Answers.{Request, Answer, refused, asked, shown, told, done}
use Rattle.rosenbrock.specs.Readers.{the_request}
use Rattle.rosenbrock.specs.Stepper.{Call, supply, read, System, Next, stepped}
use Rattle.lists.proofs.Telling.{readers_tell}
use Rattle.method.specs.Conversation.{answer_to, Conversation}
use Rattle.decay.specs.Host.{decay, supplied_to, supplied_by, if_asked, answered_once, answered}

-- an answer that asks for nothing more
unfoldable pub settled : Answer → Bool
settled (shown v) = true
settled (refused k) = true
settled (asked q) = false
settled (told r) = false
settled done = false

module _ (file : List ℕ) where
  kept : (a : Answer) (next now : Next) → settled a ≡ true → if_asked a next now ≡ now
  unfolding if_asked settled
  kept (shown v) next now h = refl
  kept (refused k) next now h = refl
  kept (asked q) next now h = cc
  kept (told r) next now h = refl
  kept done next now h = refl

  once_still : (r : Next) → settled r.answer ≡ true → answered_once file r ≡ r
  unfolding answered_once
  once_still r h = kept r.answer _ r h

  pub still : (k : ℕ) (r : Next) → settled r.answer ≡ true → answered k file r ≡ r
  unfolding answered
  still zero r h = refl
  still (suc k) r h = ap (answered_once file) (still k r h) ∙ once_still r h

  shifted : (k : ℕ) (r : Next) → answered (suc k) file r ≡ answered k file (answered_once file r)
  unfolding answered
  shifted zero r = refl
  shifted (suc k) r = ap (answered_once file) (shifted k r)

  -- what a call asked for is read and supplied
  module _ (c : Call) (y : System) (q : Request) (e : (stepped c y).answer ≡ asked q) where
    abbrev r : Next
    r = stepped c y

    supplied_is : supplied_by (stepped (read the_request) r.system).answer ≡ answer_to decay q.kind q.time q.state
    unfolding supplied_by supplied_to
    supplied_is = ap supplied_by ((readers_tell c y).the_request_asked q e).of_request

    once_is : answered_once file r ≡ stepped (supply file (answer_to decay q.kind q.time q.state)) r.system
    unfolding answered_once if_asked
    once_is =
        ap (λ (a : Answer). if_asked a (stepped (supply file (supplied_by (stepped (read the_request) r.system).answer)) r.system) r) e
        ∙ ap (λ (v : List Float). stepped (supply file v) r.system) supplied_is

  pub talk : (k : ℕ) (rs : List Request) (c : Call) (y : System) (last : Answer) → settled last ≡ true → Conversation file decay rs (stepped c y) last → length rs ≤ k
      → (answered k file (stepped c y)).answer ≡ last
  unfolding Conversation
  talk k [] c y last h t n = ap (λ (x : Next). x.answer) (still k (stepped c y) (ap settled t ∙ h)) ∙ t
  talk zero (q ∷ rs) c y last h t n = absurd (omega arith)
  talk (suc k) (q ∷ rs) c y last h t n =
      let r = stepped c y in
      ap (λ (x : Next). x.answer) (shifted k r ∙ ap (answered k file) (once_is c y q t.0))
      ∙ talk k rs (supply file (answer_to decay q.kind q.time q.state)) r.system last h t.1 (omega arith)
