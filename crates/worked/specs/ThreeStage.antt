-- Three stages, three components, run by the definitions. The derivative is injected, Jacobian and time partial are the host's, and no c is 0, so that each
-- stage asks; the estimator is step doubling, so that no error is shown. The original's bits, which would be others if the back substitution took its columns
-- downward. Definitions only.
use Rattle.std.specs.Prelude.{◌≡◌, ℕ, true, List, [], ◌∷◌, replicate, Float}
use Rattle.std.proofs.Math.Option.{none}
use Rattle.time_difference.specs.Policy.{default_policy}
use Rattle.tableau.specs.File.{file_of}
use Rattle.refusals.specs.Answers.{Lent, View, derivative, jacobian, time_partial, shown, done}
use Rattle.rosenbrock.specs.Stepper.{Call, attempt, supply, accept, inject_derivative, in_place, System, make, made, made_of}
use Rattle.lists.specs.Run.{Accepted, run}
use Rattle.worked.specs.Seeing.{bits, asks, accepted, sees}

-- gamma 0.43; a 0.7, then -0.4, 0.9; coupling -1.3, then 0.6, -0.8; c 0.1, 0.5, 0.9; d 0.43, -0.2, 0.1; b 0.5, 0.8, -0.3; btilde 0.2, -0.1, 0.05
unfoldable pub file : List ℕ
file =
    file_of
    (record {
      counts = record { stages = 3; kind = 0; estimator = 1; btilde = 1 };
      coefficients =
          bits 0x3fdb_851e_b851_eb85
          ∷ bits 0x3fe6_6666_6666_6666
          ∷ bits 0xbfd9_9999_9999_999a ∷ bits 0x3fec_cccc_cccc_cccd
          ∷ bits 0xbff4_cccc_cccc_cccd
          ∷ bits 0x3fe3_3333_3333_3333 ∷ bits 0xbfe9_9999_9999_999a
          ∷ bits 0x3fb9_9999_9999_999a ∷ bits 0x3fe0_0000_0000_0000 ∷ bits 0x3fec_cccc_cccc_cccd
          ∷ bits 0x3fdb_851e_b851_eb85 ∷ bits 0xbfc9_9999_9999_999a ∷ bits 0x3fb9_9999_9999_999a
          ∷ bits 0x3fe0_0000_0000_0000 ∷ bits 0x3fe9_9999_9999_999a ∷ bits 0xbfd3_3333_3333_3333
          ∷ bits 0x3fc9_9999_9999_999a ∷ bits 0xbfb9_9999_9999_999a ∷ bits 0x3fa9_9999_9999_999a
          ∷ [];
    })

-- (0.3, -1.1, 2.7)
abbrev state : List Float
state = bits 0x3fd3_3333_3333_3333 ∷ bits 0xbff1_9999_9999_999a ∷ bits 0x4005_9999_9999_999a ∷ []

unfoldable pub lent : Lent
lent = record { state = state; work = replicate 60 (bits 0); pivots = replicate 3 0 }

unfoldable pub begun : System
begun = made_of file default_policy (bits 0) lent

abbrev pub ThreeStageIsMade : Type 0
ThreeStageIsMade = make file default_policy (bits 0) lent ≡ made begun

-- (0.9, -0.6, 0.2); the step 0.7; the Jacobian by rows; the time partial; the derivatives at the three stages
abbrev calls : List Call
calls =
    inject_derivative (bits 0x3fec_cccc_cccc_cccd ∷ bits 0xbfe3_3333_3333_3333 ∷ bits 0x3fc9_9999_9999_999a ∷ [])
    ∷ attempt file (bits 0x3fe6_6666_6666_6666) true true
    ∷ supply file
    (bits 0xbffb_3333_3333_3333 ∷ bits 0x4002_6666_6666_6666 ∷ bits 0x3fe3_3333_3333_3333
    ∷ bits 0x4008_cccc_cccc_cccd ∷ bits 0xbfc9_9999_9999_999a ∷ bits 0x3ffe_6666_6666_6666
    ∷ bits 0x3fd9_9999_9999_999a ∷ bits 0x4007_3333_3333_3333 ∷ bits 0xc001_9999_9999_999a
    ∷ [])
    ∷ supply file (bits 0x3fc0_a3d7_0a3d_70a4 ∷ bits 0xbfb1_eb85_1eb8_51ec ∷ bits 0x3fca_e147_ae14_7ae1 ∷ [])
    ∷ supply file (bits 0x3fe9_9999_9999_999a ∷ bits 0xbfe0_0000_0000_0000 ∷ bits 0x3fd3_3333_3333_3333 ∷ [])
    ∷ supply file (bits 0x3fe3_3333_3333_3333 ∷ bits 0xbfc9_9999_9999_999a ∷ bits 0x3fe6_6666_6666_6666 ∷ [])
    ∷ supply file (bits 0x3fe0_0000_0000_0000 ∷ bits 0x3fb9_9999_9999_999a ∷ bits 0x3ff1_9999_9999_999a ∷ [])
    ∷ accept in_place
    ∷ []

abbrev before : Accepted
before = accepted (bits 0) state

abbrev ending : Accepted
ending = accepted (bits 0x3fe6_6666_6666_6666) (bits 0xbfd0_6f2e_a773_58ef ∷ bits 0xc001_b2ff_cc37_bab5 ∷ bits 0x4000_8a7c_d844_c0f3 ∷ [])

abbrev view : View
view =
    record {
      previous = state;
      start = bits 0;
      end = bits 0x3fe6_6666_6666_6666;
      candidate = bits 0xbfd0_6f2e_a773_58ef ∷ bits 0xc001_b2ff_cc37_bab5 ∷ bits 0x4000_8a7c_d844_c0f3 ∷ [];
      error = none;
      stages =
          bits 0x3fd2_716f_cc27_d975 ∷ bits 0x3fcb_38f3_80d7_828a ∷ bits 0x3fc9_62ed_f6fc_531a
          ∷ bits 0xbfd0_8067_3f0b_12ed ∷ bits 0xbfe0_ae49_e9b7_24c2 ∷ bits 0xbfce_6c7e_e728_cca4
          ∷ bits 0x3ffa_60fb_4be9_581a ∷ bits 0x4005_6112_1500_c8c9 ∷ bits 0x3ffc_dfdc_4f47_46cd
          ∷ [];
      rhs_stages =
          bits 0x3fe9_9999_9999_999a ∷ bits 0xbfe0_0000_0000_0000 ∷ bits 0x3fd3_3333_3333_3333
          ∷ bits 0x3fe3_3333_3333_3333 ∷ bits 0xbfc9_9999_9999_999a ∷ bits 0x3fe6_6666_6666_6666
          ∷ bits 0x3fe0_0000_0000_0000 ∷ bits 0x3fb9_9999_9999_999a ∷ bits 0x3ff1_9999_9999_999a
          ∷ [];
      jacobian =
          bits 0xbffb_3333_3333_3333 ∷ bits 0x4002_6666_6666_6666 ∷ bits 0x3fe3_3333_3333_3333
          ∷ bits 0x4008_cccc_cccc_cccd ∷ bits 0xbfc9_9999_9999_999a ∷ bits 0x3ffe_6666_6666_6666
          ∷ bits 0x3fd9_9999_9999_999a ∷ bits 0x4007_3333_3333_3333 ∷ bits 0xc001_9999_9999_999a
          ∷ [];
      time_partial = bits 0x3fc0_a3d7_0a3d_70a4 ∷ bits 0xbfb1_eb85_1eb8_51ec ∷ bits 0x3fca_e147_ae14_7ae1 ∷ [];
    }

abbrev pub ThreeStageRuns : Type 0
ThreeStageRuns = run begun calls
    ≡ sees done before
    ∷ sees (asks jacobian (bits 0) state) before
    ∷ sees (asks time_partial (bits 0) state) before
    ∷ sees (asks derivative (bits 0x3fb1_eb85_1eb8_51eb) state) before
    ∷ sees (asks derivative (bits 0x3fd6_6666_6666_6666) (bits 0x3fe0_0e1a_5441_25b6 ∷ bits 0xbfee_6fa2_2fda_4929 ∷ bits 0x4006_b5ed_9c67_d6d6 ∷ [])) before
    ∷ sees (asks derivative (bits 0x3fe4_28f5_c28f_5c29) (bits 0xbfa8_3ab3_8668_d9c0 ∷ bits 0xbffa_77ad_6f9d_30ab ∷ bits 0x4003_4106_1cd2_98d0 ∷ [])) before
    ∷ sees (shown view) before
    ∷ sees done ending
    ∷ []
