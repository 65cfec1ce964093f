-- Two stages, two components, a rejected step and a shorter one that is accepted, run by the definitions. In the first attempt the Jacobian and the time
-- partial are probed; the second keeps them. All that is seen of it, and the memory, are the original's bits. Definitions only.
use Rattle.std.specs.Prelude.{◌≡◌, ℕ, false, List, [], ◌∷◌, replicate, take, Float}
use Rattle.std.proofs.Math.Option.{some}
use Rattle.time_difference.specs.Policy.{default_policy}
use Rattle.tableau.specs.File.{file_of}
use Rattle.refusals.specs.Answers.{Lent, View, derivative, shown, done}
use Rattle.rosenbrock.specs.Stepper.{Call, attempt, supply, accept, reject, by_value, in_place, System, make, made, made_of}
use Rattle.lists.specs.Run.{Accepted, after, run}
use Rattle.worked.specs.Seeing.{bits, one, asks, accepted, sees}

-- gamma 0.3; a 0.7; coupling -1.3; c 0, 0.6; d 0.3, -0.2; b 0.9, 0.45; btilde 0.1, -0.15; embedded
unfoldable pub file : List ℕ
file =
    file_of
    (record {
      counts = record { stages = 2; kind = 0; estimator = 0; btilde = 1 };
      coefficients =
          bits 0x3fd3_3333_3333_3333
          ∷ bits 0x3fe6_6666_6666_6666
          ∷ bits 0xbff4_cccc_cccc_cccd
          ∷ bits 0 ∷ bits 0x3fe3_3333_3333_3333
          ∷ bits 0x3fd3_3333_3333_3333 ∷ bits 0xbfc9_9999_9999_999a
          ∷ bits 0x3fec_cccc_cccc_cccd ∷ bits 0x3fdc_cccc_cccc_cccd
          ∷ bits 0x3fb9_9999_9999_999a ∷ bits 0xbfc3_3333_3333_3333
          ∷ [];
    })

-- 0.1, and the state (1.5, -0.7)
abbrev time : Float
time = bits 0x3fb9_9999_9999_999a

abbrev state : List Float
state = bits 0x3ff8_0000_0000_0000 ∷ bits 0xbfe6_6666_6666_6666 ∷ []

-- two doubles more than are needed
unfoldable pub lent : Lent
lent = record { state = state; work = replicate 34 one; pivots = 7 ∷ 7 ∷ [] }

unfoldable pub begun : System
begun = made_of file default_policy time lent

abbrev pub TwoStageIsMade : Type 0
TwoStageIsMade = make file default_policy time lent ≡ made begun

-- ---- the calls

-- The step 0.5, with the derivatives at the state, at the two probed columns, at the two probed times and at the second stage; then the step 0.25, with
-- that at the second stage. The first stage takes the derivative at the state, since its c is 0.
abbrev calls : List Call
calls =
    attempt file (bits 0x3fe0_0000_0000_0000) false false
    ∷ supply file (bits 0xbfd3_3333_3333_3333 ∷ bits 0x3ff1_9999_9999_999a ∷ [])
    ∷ supply file (bits 0xbfd3_3333_3def_faa4 ∷ bits 0x3ff1_9999_cf49_7ecf ∷ [])
    ∷ supply file (bits 0xbfd3_3333_2876_6bc2 ∷ bits 0x3ff1_9999_918c_0405 ∷ [])
    ∷ supply file (bits 0xbfd3_3337_64f1_1b61 ∷ bits 0x3ff1_999b_b278_8db0 ∷ [])
    ∷ supply file (bits 0xbfd3_333f_c86c_ebbc ∷ bits 0x3ff1_999e_d7c6_fbd2 ∷ [])
    ∷ supply file (bits 0xbfd9_9999_9999_999a ∷ bits 0x3fe9_9999_9999_999a ∷ [])
    ∷ reject in_place
    ∷ attempt file (bits 0x3fd0_0000_0000_0000) false false
    ∷ supply file (bits 0xbfd6_6666_6666_6666 ∷ bits 0x3fee_6666_6666_6666 ∷ [])
    ∷ accept by_value
    ∷ []

-- ---- what is seen

abbrev before : Accepted
before = accepted time state

abbrev view_1 : View
view_1 =
    record {
      previous = state;
      start = time;
      end = bits 0x3fe3_3333_3333_3333;
      candidate = bits 0x3ff7_3487_1486_88e1 ∷ bits 0xbfe3_63a2_0741_9054 ∷ [];
      error = some (bits 0x3f65_1ea8_8b81_3b9e ∷ bits 0x3f7b_2751_37cb_8e2a ∷ []);
      stages = bits 0xbfa1_e523_86da_e1df ∷ bits 0x3fb8_5097_2b02_b6a9 ∷ bits 0xbfa4_badd_e95d_1a17 ∷ bits 0x3f93_9561_15b3_fa29 ∷ [];
      rhs_stages = bits 0xbfd3_3333_3333_3333 ∷ bits 0x3ff1_9999_9999_999a ∷ bits 0xbfd9_9999_9999_999a ∷ bits 0x3fe9_9999_9999_999a ∷ [];
      jacobian = bits 0xbfdc_a213_d800_0000 ∷ bits 0x3fe5_798e_e200_0000 ∷ bits 0x4021_e54c_6700_0000 ∷ bits 0xc000_1b2b_2a00_0000 ∷ [];
      time_partial = bits 0xbfb5_2351_d834_3cb6 ∷ bits 0x3fcf_b4fa_c42e_038f ∷ [];
    }

abbrev view_2 : View
view_2 =
    record {
      previous = state;
      start = time;
      end = bits 0x3fd6_6666_6666_6666;
      candidate = bits 0x3ff7_9b05_5afc_739d ∷ bits 0xbfe4_2e97_3e74_425b ∷ [];
      error = some (bits 0x3f41_6c1a_217c_e40c ∷ bits 0x3f59_b712_8730_6220 ∷ []);
      stages = bits 0xbf93_ad1b_00ca_2827 ∷ bits 0x3faf_9517_872c_52e7 ∷ bits 0xbf90_bf42_1cd6_1f9d ∷ bits 0x3f9f_652c_fbe6_f052 ∷ [];
      rhs_stages = bits 0xbfd3_3333_3333_3333 ∷ bits 0x3ff1_9999_9999_999a ∷ bits 0xbfd6_6666_6666_6666 ∷ bits 0x3fee_6666_6666_6666 ∷ [];
      jacobian = bits 0xbfdc_a213_d800_0000 ∷ bits 0x3fe5_798e_e200_0000 ∷ bits 0x4021_e54c_6700_0000 ∷ bits 0xc000_1b2b_2a00_0000 ∷ [];
      time_partial = bits 0xbfb5_2351_d834_3cb6 ∷ bits 0x3fcf_b4fa_c42e_038f ∷ [];
    }

abbrev ending : Accepted
ending = accepted (bits 0x3fd6_6666_6666_6666) (bits 0x3ff7_9b05_5afc_739d ∷ bits 0xbfe4_2e97_3e74_425b ∷ [])

abbrev pub TwoStageRuns : Type 0
TwoStageRuns = run begun calls
    ≡ sees (asks derivative time state) before
    ∷ sees (asks derivative time (bits 0x3ff8_0000_0600_0000 ∷ bits 0xbfe6_6666_6666_6666 ∷ [])) before
    ∷ sees (asks derivative time (bits 0x3ff8_0000_0000_0000 ∷ bits 0xbfe6_6666_5e66_6666 ∷ [])) before
    ∷ sees (asks derivative (bits 0x3fb9_99ff_3194_2e90) state) before
    ∷ sees (asks derivative (bits 0x3fb9_9a64_c98e_c385) state) before
    ∷ sees (asks derivative (bits 0x3fd9_9999_9999_999a) (bits 0x3ff7_9bc9_9f73_3642 ∷ bits 0xbfe4_45bf_92a2_f66a ∷ [])) before
    ∷ sees (shown view_1) before
    ∷ sees done before
    ∷ sees (asks derivative (bits 0x3fcf_ffff_ffff_ffff) (bits 0x3ff7_c8e8_1aca_96c3 ∷ bits 0xbfe5_04ad_5ee2_dc5f ∷ [])) before
    ∷ sees (shown view_2) before
    ∷ sees done ending
    ∷ []

-- ---- the memory

-- The needed work: candidate, error, state of the last stage, derivative, time partial, state and derivative of the last probe, last solution, Jacobian,
-- factors, stages, derivatives at the stages. Then the work that is not needed, as it was lent.

-- after the first view: row 1 is the first pivot
abbrev pub TwoStageMemory1 : Type 0
TwoStageMemory1 = (after begun (take 7 calls)).lent
    ≡ record {
      state = state;
      work =
          bits 0x3ff7_3487_1486_88e1 ∷ bits 0xbfe3_63a2_0741_9054
          ∷ bits 0x3f65_1ea8_8b81_3b9e ∷ bits 0x3f7b_2751_37cb_8e2a
          ∷ bits 0x3ff7_9bc9_9f73_3642 ∷ bits 0xbfe4_45bf_92a2_f66a
          ∷ bits 0xbfd3_3333_3333_3333 ∷ bits 0x3ff1_9999_9999_999a
          ∷ bits 0xbfb5_2351_d834_3cb6 ∷ bits 0x3fcf_b4fa_c42e_038f
          ∷ bits 0x3ff8_0000_0000_0000 ∷ bits 0xbfe6_6666_5e66_6666
          ∷ bits 0xbfd3_333f_c86c_ebbc ∷ bits 0x3ff1_999e_d7c6_fbd2
          ∷ bits 0xbfd1_4663_97cd_95be ∷ bits 0x3fc0_51d0_e76b_5078
          ∷ bits 0xbfdc_a213_d800_0000 ∷ bits 0x3fe5_798e_e200_0000 ∷ bits 0x4021_e54c_6700_0000 ∷ bits 0xc000_1b2b_2a00_0000
          ∷ bits 0xbff5_798e_e200_0000 ∷ bits 0x3ff4_d4f3_5966_6666 ∷ bits 0xbfe9_711d_99cf_7fb4 ∷ bits 0x3fed_e760_8112_f594
          ∷ bits 0xbfa1_e523_86da_e1df ∷ bits 0x3fb8_5097_2b02_b6a9 ∷ bits 0xbfa4_badd_e95d_1a17 ∷ bits 0x3f93_9561_15b3_fa29
          ∷ bits 0xbfd3_3333_3333_3333 ∷ bits 0x3ff1_9999_9999_999a ∷ bits 0xbfd9_9999_9999_999a ∷ bits 0x3fe9_9999_9999_999a
          ∷ one ∷ one
          ∷ [];
      pivots = 1 ∷ 1 ∷ [];
    }

-- after the accept: row 0 is the first pivot
abbrev pub TwoStageMemory2 : Type 0
TwoStageMemory2 = (after begun calls).lent
    ≡ record {
      state = ending.state;
      work =
          bits 0x3ff7_9b05_5afc_739d ∷ bits 0xbfe4_2e97_3e74_425b
          ∷ bits 0x3f41_6c1a_217c_e40c ∷ bits 0x3f59_b712_8730_6220
          ∷ bits 0x3ff7_c8e8_1aca_96c3 ∷ bits 0xbfe5_04ad_5ee2_dc5f
          ∷ bits 0xbfd3_3333_3333_3333 ∷ bits 0x3ff1_9999_9999_999a
          ∷ bits 0xbfb5_2351_d834_3cb6 ∷ bits 0x3fcf_b4fa_c42e_038f
          ∷ bits 0x3ff8_0000_0000_0000 ∷ bits 0xbfe6_6666_5e66_6666
          ∷ bits 0xbfd3_333f_c86c_ebbc ∷ bits 0x3ff1_999e_d7c6_fbd2
          ∷ bits 0xbfcb_e96e_300f_8a08 ∷ bits 0x3fda_29a5_7c95_c846
          ∷ bits 0xbfdc_a213_d800_0000 ∷ bits 0x3fe5_798e_e200_0000 ∷ bits 0x4021_e54c_6700_0000 ∷ bits 0xc000_1b2b_2a00_0000
          ∷ bits 0x3ff0_8970_5f40_0000 ∷ bits 0xbfa9_c511_dbff_fffe ∷ bits 0xbfe4_c714_569a_ee18 ∷ bits 0x3ff1_e49d_c427_65c6
          ∷ bits 0xbf93_ad1b_00ca_2827 ∷ bits 0x3faf_9517_872c_52e7 ∷ bits 0xbf90_bf42_1cd6_1f9d ∷ bits 0x3f9f_652c_fbe6_f052
          ∷ bits 0xbfd3_3333_3333_3333 ∷ bits 0x3ff1_9999_9999_999a ∷ bits 0xbfd6_6666_6666_6666 ∷ bits 0x3fee_6666_6666_6666
          ∷ one ∷ one
          ∷ [];
      pivots = 0 ∷ 1 ∷ [];
    }

-- ---- the counters

abbrev pub TwoStageCounters : Type 0
TwoStageCounters = (after begun calls).stepper.statistics
    ≡ record {
      attempts = 2;
      rhs_evaluations = 7;
      accepted_steps = 1;
      rejected_steps = 1;
      jacobian_evaluations = 1;
      factorizations = 2;
      linear_solves = 4;
    }
