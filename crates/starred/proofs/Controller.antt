-- ★9 and ★10, for all that their lines leave open, and that what they ask for is met by some controller. Assumes nothing.
use mathlib.Core.Path.{◌≡◌, refl, sym, ap, ◌∙◌}
use mathlib.Core.Bool.{Bool, true, false, not, ◌&&◌, ◌||◌, cond, false≢true, true≢false}
use mathlib.Core.List.{[], ◌∷◌}
use mathlib.Core.Logic.{◌⊎◌, inl, inr}
use lib.Dec.{ltb}
use lib.IntN.{pos}
use lib.Ieee.{Float, nan, inf, fin, round, of_bits, is_nan, lt, le, eq, ne, mul, neg}
use lib.Ieee.Scale.{finite}
use Rattle.float.specs.Operators.{◌⊗◌, 𝟎, 𝟏}
use Rattle.float.specs.Constants.{half}
use Rattle.float.specs.Methods.{abs, min_num, signum, finite_positive}
use Rattle.float.proofs.Cases.{no, and_no_right, both}
use Rattle.float.proofs.Order.{lt_not_le, lt_not_gt}
use Rattle.std.specs.Prelude.{Result, Ok, Err, ⊤, Option, None, Some}
use Rattle.stepping.specs.declared.Refusal.{Refusal}
use Rattle.stepping.specs.declared.Refusal.TheVariants as refusal
use Rattle.stepping.specs.declared.Refusal.TheVariants.{Configuration}
use Rattle.stepping.specs.Refusals.{◌when◌, first_of, unless_refused}
use Rattle.stepping.proofs.Refusals.{later, none, is_answered}
use Rattle.settings.specs.declared.ControllerConfig.{ControllerConfig}
use Rattle.settings.specs.declared.ControllerState.{ControllerState}
use Rattle.settings.specs.declared.MinimumStepPolicy.TheVariants.{ForceAccept}
use Rattle.settings.specs.Constants.{fifth, ten}
use Rattle.settings.specs.Valid.{fraction, none_or, valid_exponents, valid_factors, valid_steps, valid_errors, valid_history, valid_limits, valid_settings}
use Rattle.proposal.specs.declared.StepDecision.{StepDecision}
use Rattle.proposal.specs.Rules.{within_tolerance, at_minimum, forces, is_forced, is_accepted, start_factor, at_least, at_most, lower_factor, upper_factor, rejection_cap, capped, repeated_cap, cap_after_rejection, factor, upper_step, limited, next_step, decision}
use Rattle.controller.specs.declared.AdaptiveController.{AdaptiveController}
use Rattle.controller.specs.declared.Assessment.TheVariants.{Decision}
use Rattle.controller.specs.Assess.{sound, usable, measured, exhausted, stuck, assess_tests, refused, assessment, advanced, controller_of, after, assess}
use Rattle.controller.specs.Calls.{fresh}
use Rattle.starred.specs.Table.{five, decided, rejecting, Ninth, Tenth}

-- ---- at a step above the minimum nothing is forced, and a shorter step is allowed
module _ (c : ControllerConfig) (h : Float) (above : lt c.minimum_step (abs h) ≡ true) where
  longer : at_minimum c h ≡ false
  unfolding at_minimum
  longer = lt_not_le c.minimum_step (abs h) above

  unforced : (err : Float) → is_forced c h err ≡ false
  unfolding is_forced
  unforced err = and_no_right (not (within_tolerance c err)) (ap (λ (b : Bool). b && forces c.minimum_step_policy) longer)

  plainly : (err : Float) → is_accepted c h err ≡ within_tolerance c err
  unfolding is_accepted
  plainly err = ap (λ (b : Bool). within_tolerance c err || b) (unforced err) ∙ go (within_tolerance c err)
    where
      go : (b : Bool) → (b || false) ≡ b
      go true = refl
      go false = refl

  unexhausted : (err : Float) → exhausted c h err ≡ false
  unfolding exhausted
  unexhausted err = and_no_right (not (is_accepted c h err)) longer

-- ---- error 1
one_within : (c : ControllerConfig) → within_tolerance c 𝟏 ≡ c.accept_equal
unfolding within_tolerance le lt eq of_bits
one_within c = go c.accept_equal
  where
    go : (b : Bool) → cond b true false ≡ b
    go true = refl
    go false = refl

-- a decision is the one that the rules give
refused_none : (err : Float) (r : Refusal) (d : StepDecision) → refused err r ≡ Decision d → ⊥
unfolding refused
refused_none err refusal.Dimension d h = cc
refused_none err refusal.NonFinite d h = cc
refused_none err refusal.UnsupportedTableau d h = cc
refused_none err refusal.Direction d h = cc
refused_none err refusal.TimeResolution d h = cc
refused_none err refusal.Singular d h = cc
refused_none err refusal.Configuration d h = cc
refused_none err refusal.Tolerance d h = cc
refused_none err refusal.FirstStep d h = cc
refused_none err refusal.SegmentData d h = cc
refused_none err refusal.OutsideTimeSpan d h = cc
refused_none err refusal.TableauFile d h = cc
refused_none err refusal.PivotRange d h = cc
refused_none err refusal.PendingCandidate d h = cc
refused_none err refusal.NoCandidate d h = cc
refused_none err refusal.MinimumStep d h = cc
refused_none err refusal.NoRequest d h = cc
refused_none err refusal.AttemptOpen d h = cc
refused_none err refusal.HostFailure d h = cc

the_decision : (r : Result ⊤ Refusal) (err : Float) (d e : StepDecision) → unless_refused (refused err) r (Decision d) ≡ Decision e → d ≡ e
unfolding unless_refused
the_decision (Ok x) err d e h = cc
the_decision (Err k) err d e h = absurd (refused_none err k e h)

module _ (k : AdaptiveController) (h p : Float) (above : lt k.config.minimum_step (abs h) ≡ true) where
  abbrev D : StepDecision
  D = decision k.config k.state h 𝟏 p

  abbrev next : Float
  next = next_step k.config k.state h 𝟏 p

  abbrev equal : Bool
  equal = k.config.accept_equal

  at_one : is_accepted k.config h 𝟏 ≡ equal
  at_one = plainly k.config h above 𝟏 ∙ one_within k.config

  decision_9 : D ≡ decided equal next
  unfolding decision
  decision_9 = λ i. record { accepted = at_one i; forced = unforced k.config h above 𝟏 i; next_step = next }

  only_9 : (d : StepDecision) → (assess k h 𝟏 p).answer ≡ Decision d → (d.accepted ≡ equal) × (d.forced ≡ false)
  unfolding assess assessment
  only_9 d e =
      let q = sym (the_decision (first_of (assess_tests k h 𝟏 D)) 𝟏 D d e) ∙ decision_9 in
      (ap (λ (x : StepDecision). x.accepted) q, ap (λ (x : StepDecision). x.forced) q)

  one_above_0 : le 𝟎 𝟏 ≡ true
  unfolding le lt eq of_bits
  one_above_0 = refl

  -- the first three tests are passed
  tests_9 : sound k ≡ true → usable h ≡ true
      → first_of (assess_tests k h 𝟏 (decided equal next)) ≡ first_of ((Configuration when not (usable next)) ∷ (refusal.MinimumStep when not equal && le (abs h) (abs next)) ∷ [])
  unfolding measured stuck
  tests_9 s u = later Configuration _ (ap not s) (later Configuration _ (ap not (both u one_above_0)) (later refusal.MinimumStep _ (unexhausted k.config h above 𝟏) refl))

  answers_9 : sound k ≡ true → usable h ≡ true
      → (assess k h 𝟏 p).answer ≡ unless_refused (refused 𝟏)
      (first_of ((Configuration when not (usable next)) ∷ (refusal.MinimumStep when not equal && le (abs h) (abs next)) ∷ []))
      (Decision (decided equal next))
  unfolding assess assessment
  answers_9 s u =
      ap (λ (d : StepDecision). unless_refused (refused 𝟏) (first_of (assess_tests k h 𝟏 d)) (Decision d)) decision_9
      ∙ ap (λ (r : Result ⊤ Refusal). unless_refused (refused 𝟏) r (Decision (decided equal next))) (tests_9 s u)

  pub star_9 : Ninth k h p
  star_9 = record { only = only_9; answers = answers_9 }

-- ---- an infinite error
fifth_number : is_nan fifth ≡ false
unfolding is_nan of_bits
fifth_number = refl

uncapped : (cap : Float) → lt fifth cap ≡ true → min_num fifth cap ≡ fifth
uncapped cap h = sym (no _ fifth_number (no _ (lt_not_gt fifth cap h) refl))

infinite_start : (c : ControllerConfig) (p : Float) → start_factor c (inf false) p ≡ c.minimum_factor
unfolding start_factor eq of_bits
infinite_start c p = refl

infinite_within : (c : ControllerConfig) → within_tolerance c (inf false) ≡ false
unfolding within_tolerance le lt eq of_bits
infinite_within c = go c.accept_equal
  where
    go : (b : Bool) → cond b false false ≡ false
    go true = refl
    go false = refl

-- a minimum step of either zero is below 1, and 0.2 is not below it
zero_either : (x : Float) → abs x ≡ 𝟎 → (x ≡ fin false 0 (pos 0)) ⊎ (x ≡ fin true 0 (pos 0))
unfolding abs is_nan neg of_bits
zero_either nan e = absurd (true≢false (ap is_nan e))
zero_either (inf s) e = absurd (false≢true (ap finite e))
zero_either (fin false m d) e = inl e
zero_either (fin true m d) e = inr (ap neg e)

-- the rules at 0.2
kept : (lo : Float) → lo ≡ fifth → at_least lo fifth ≡ fifth
unfolding at_least lt of_bits
kept lo e = ap (λ (l : Float). at_least l fifth) e

kept_under : (hi : Float) → hi ≡ five → at_most hi fifth ≡ fifth
unfolding at_most lt of_bits
kept_under hi e = ap (λ (l : Float). at_most l fifth) e

kept_above : (lo : Float) → abs lo ≡ 𝟎 → at_least lo fifth ≡ fifth
unfolding at_least lt of_bits
kept_above lo e = go (zero_either lo e)
  where
    go : (lo ≡ fin false 0 (pos 0)) ⊎ (lo ≡ fin true 0 (pos 0)) → at_least lo fifth ≡ fifth
    go (inl q) = ap (λ (l : Float). at_least l fifth) q
    go (inr q) = ap (λ (l : Float). at_least l fifth) q

kept_below : (hi : Float) → hi ≡ ten → at_most hi fifth ≡ fifth
unfolding at_most lt of_bits
kept_below hi e = ap (λ (l : Float). at_most l fifth) e

one_above : (lo : Float) → abs lo ≡ 𝟎 → lt lo (abs 𝟏) ≡ true
unfolding lt abs of_bits
one_above lo e = go (zero_either lo e)
  where
    go : (lo ≡ fin false 0 (pos 0)) ⊎ (lo ≡ fin true 0 (pos 0)) → lt lo (abs 𝟏) ≡ true
    go (inl q) = ap (λ (l : Float). lt l (abs 𝟏)) q
    go (inr q) = ap (λ (l : Float). lt l (abs 𝟏)) q

scaled : abs 𝟏 ⊗ fifth ≡ fifth
unfolding mul round abs of_bits
scaled = refl

signed : signum 𝟏 ⊗ fifth ≡ fifth
unfolding mul round signum of_bits
signed = refl

fifth-usable : usable fifth ≡ true
unfolding usable ne eq of_bits
fifth-usable = refl

fifth_shorter : le (abs 𝟏) (abs fifth) ≡ false
unfolding le lt eq abs of_bits
fifth_shorter = refl

infinite_measured : measured 𝟏 (inf false) ≡ true
unfolding measured usable ne le lt eq of_bits
infinite_measured = refl

twice : (c : ControllerConfig) (s : ControllerState) → Tenth c → repeated_cap c s false fifth ≡ fifth
unfolding repeated_cap capped
twice c s t = go (ltb 0 s.consecutive_rejections) c.repeated_rejection_maximum t.repeated_cap
  where
    go : (x : Bool) (o : Option Float) → ((cap : Float) → o ≡ Some cap → lt fifth cap ≡ true) → cond x (capped fifth o) fifth ≡ fifth
    go true None h = refl
    go true (Some cap) h = uncapped cap (h cap refl)
    go false o h = refl

once : (c : ControllerConfig) → Tenth c → rejection_cap c false fifth ≡ fifth
unfolding rejection_cap
once c t = uncapped c.rejection_maximum t.cap

last : (c : ControllerConfig) (s : ControllerState) (x : Float) → cap_after_rejection c s false x ≡ x
unfolding cap_after_rejection
last c s x = refl

factor_10 : (c : ControllerConfig) (s : ControllerState) (p : Float) → Tenth c → factor c s false (inf false) p ≡ fifth
unfolding factor
factor_10 c s p t =
    last c s _
    ∙ ap (λ (x : Float). repeated_cap c s false (rejection_cap c false (upper_factor c (lower_factor c x)))) (infinite_start c p ∙ t.least_factor)
    ∙ ap (λ (x : Float). repeated_cap c s false (rejection_cap c false (upper_factor c x))) (kept c.minimum_factor t.least_factor)
    ∙ ap (λ (x : Float). repeated_cap c s false (rejection_cap c false x)) (kept_under c.maximum_factor t.largest_factor)
    ∙ ap (repeated_cap c s false) (once c t)
    ∙ twice c s t

module _ (k : AdaptiveController) (p : Float) (s : sound k ≡ true) (t : Tenth k.config) where
  above_10 : lt k.config.minimum_step (abs 𝟏) ≡ true
  above_10 = one_above k.config.minimum_step t.least_step

  rejected_10 : is_accepted k.config 𝟏 (inf false) ≡ false
  rejected_10 = plainly k.config 𝟏 above_10 (inf false) ∙ infinite_within k.config

  next_10 : next_step k.config k.state 𝟏 (inf false) p ≡ fifth
  unfolding next_step limited
  next_10 =
      let c = k.config in
      ap (λ (b : Bool). limited c 𝟏 (abs 𝟏 ⊗ factor c k.state b (inf false) p)) rejected_10
      ∙ ap (λ (x : Float). limited c 𝟏 (abs 𝟏 ⊗ x)) (factor_10 c k.state p t)
      ∙ ap (limited c 𝟏) scaled
      ∙ ap (λ (x : Float). signum 𝟏 ⊗ upper_step c x) (kept_above c.minimum_step t.least_step)
      ∙ ap (λ (x : Float). signum 𝟏 ⊗ x) (kept_below c.maximum_step t.largest_step)
      ∙ signed

  decision_10 : decision k.config k.state 𝟏 (inf false) p ≡ decided false fifth
  unfolding decision
  decision_10 = λ i. record { accepted = rejected_10 i; forced = unforced k.config 𝟏 above_10 (inf false) i; next_step = next_10 i }

  answer_10 : assessment k 𝟏 (inf false) p ≡ Decision (decided false fifth)
  unfolding assessment stuck
  answer_10 =
      ap (λ (d : StepDecision). unless_refused (refused (inf false)) (first_of (assess_tests k 𝟏 (inf false) d)) (Decision d)) decision_10
      ∙ sym (is_answered (refused (inf false))
      (later Configuration _ (ap not s) (later Configuration _ (ap not infinite_measured) (later refusal.MinimumStep _ (unexhausted k.config 𝟏 above_10 (inf false)) (later Configuration _ (ap not fifth-usable) (later refusal.MinimumStep [] fifth_shorter none))))) refl)

  pub star_10 : assess k 𝟏 (inf false) p ≡ rejecting k fifth
  unfolding assess after advanced
  star_10 = λ i. record { controller = after k (inf false) (answer_10 i); answer = answer_10 i }

-- ---- what the two rows ask for is met, and ★9 decides either way
abbrev some_config : Bool → ControllerConfig
some_config equal =
    record {
      beta = 𝟏 ∷ 𝟎 ∷ 𝟎 ∷ [];
      safety = 𝟏;
      minimum_factor = fifth;
      maximum_factor = five;
      rejection_maximum = 𝟏;
      rejected_acceptance_maximum = 𝟏;
      minimum_step = 𝟎;
      maximum_step = ten;
      minimum_step_policy = ForceAccept;
      initial_error_history = 𝟏 ∷ 𝟏 ∷ [];
      error_history_floor = fifth;
      accept_equal = equal;
      rejection_exponent = None;
      repeated_rejection_maximum = None;
    }

abbrev pub some : Bool → AdaptiveController
some equal = fresh (some_config equal) 𝟏

pub some-sound : (equal : Bool) → sound (some equal) ≡ true
unfolding sound fresh controller_of valid_settings valid_exponents none_or valid_limits valid_factors valid_steps valid_errors valid_history finite_positive fraction lt le eq of_bits
some-sound accepts = refl

pub some_tenth : (equal : Bool) → Tenth (some equal).config
unfolding fresh controller_of lt abs of_bits
some_tenth equal =
    record { least_factor = refl; largest_factor = refl; cap = refl; repeated_cap = λ cap h. cc; least_step = refl; largest_step = refl }

-- error 1 at step 1 with the product 1 / 2
pub some_ninth : (equal : Bool) → (assess (some equal) 𝟏 𝟏 half).answer ≡ Decision (decided equal half)
unfolding assess assessment measured usable exhausted stuck sound fresh controller_of unless_refused first_of decision next_step limited factor start_factor at_least at_most rejection_cap repeated_cap capped cap_after_rejection is_accepted is_forced forces within_tolerance at_minimum valid_settings valid_exponents none_or valid_limits valid_factors valid_steps valid_errors valid_history finite_positive fraction abs signum is_nan lt le eq ne mul round of_bits
some_ninth true = refl
some_ninth false = refl
