-- Flags: conditions, samples of received power, which of them last, and the interrupt bit (01 "Paths and flags", "Host accesses"; 02 Req 02).
use Rattle.std.specs.Prelude.{◌+◌, ◌*◌, Bool, not, eqb, leb, ltb, [], ◌∷◌}
use Rattle.bits.specs.Choice.{pick, only_if, both, either}
use Rattle.bits.specs.Loop.{each, any_below, any_of}
use Rattle.bits.specs.Place.{put, digit}
use Rattle.bits.specs.Sets.{Lane, LaneSet, has}
use Rattle.bits.specs.Word.{word, put_word}
use Rattle.model.specs.Numbers.{Count, Index, Address, Power, Bit, FlagIndex, OnBits}
use Rattle.model.specs.Map.{Image, interrupt_bit, high_alarm_limit, low_alarm_limit, high_warning_limit, low_warning_limit, page11, on, FlagPair, flag_pairs, flag_at, lasting_count, lasting_flag, lasting_index, high_alarm_flag, low_alarm_flag, high_warning_flag, low_warning_flag, received_power, range, in_ranges}
use Rattle.model.specs.Records.{on_at, on_lanes, with_ons, with_flag_on}
use Rattle.model.specs.State.{State}
use Rattle.model.specs.Registers.{with_flags}
use Rattle.model.specs.declared.lane.Working.{Working}

-- ---- conditions

-- the flag bytes of 11h that a condition may name: FailureTx, LOSTx, CDRLOLTx, AdaptiveInputEqFailTx, LOSRx, CDRLOLRx
unfoldable pub is_condition_flag : Address → Bool
is_condition_flag = in_ranges (range 135 138 ∷ range 147 148 ∷ [])

-- a condition sets the mask's bits once
unfoldable pub condition_image : Address → LaneSet → Image → Image
condition_image flag mask x = with_flags flag mask x

-- a lasting condition on lane l: what is on and not in the off mask stays on, and the on mask joins it
unfoldable pub condition_on : FlagIndex → LaneSet → LaneSet → Lane → OnBits → OnBits
condition_on k on off l bits = with_flag_on k (either (both (has bits k) (not (has off l))) (has on l)) bits

-- it sets the flags of the on mask, and clears none
unfoldable pub lasting_state : Address → LaneSet → LaneSet → State → State
lasting_state flag on off s =
    record {
      image = condition_image flag on s.image;
      working = with_ons s.working (λ l. condition_on (lasting_index flag) on off l (on_at s.working l));
    }

-- ---- samples

-- a limit or a power: two bytes, the high byte first, in 0.1 µW
abbrev pub power : Image → Index → Power
power x at = word 2 x at

unfoldable pub raised_image : Bool → Address → Lane → Image → Image
raised_image test flag l x = only_if test (λ y. put y (flag_at flag l) 1) x

-- the four comparisons
abbrev pub above_alarm : Image → Power → Bool
above_alarm x p = ltb (power x high_alarm_limit) p

abbrev pub below_alarm : Image → Power → Bool
below_alarm x p = ltb p (power x low_alarm_limit)

abbrev pub above_warning : Image → Power → Bool
above_warning x p = ltb (power x high_warning_limit) p

abbrev pub below_warning : Image → Power → Bool
below_warning x p = ltb p (power x low_warning_limit)

-- the sample is stored, and compared with the four limits
unfoldable pub sampled_image : Lane → Power → Image → Image
sampled_image l p x =
    raised_image (below_warning x p) low_warning_flag l
    (raised_image (above_warning x p) high_warning_flag l
    (raised_image (below_alarm x p) low_alarm_flag l
    (raised_image (above_alarm x p) high_alarm_flag l
    (put_word 2 x (received_power + 2 * l) p))))

-- the lane's four flags are on where its last sample says so
unfoldable pub sampled_on : Image → Power → OnBits → OnBits
sampled_on x p bits =
    with_flag_on (lasting_index low_warning_flag) (below_warning x p)
    (with_flag_on (lasting_index high_warning_flag) (above_warning x p)
    (with_flag_on (lasting_index low_alarm_flag) (below_alarm x p)
    (with_flag_on (lasting_index high_alarm_flag) (above_alarm x p) bits)))

unfoldable pub sampled_state : Lane → Power → State → State
sampled_state l p s =
    record {
      image = sampled_image l p s.image;
      working = with_ons s.working (λ m. pick (eqb l m) (sampled_on s.image p (on_at s.working m)) (on_at s.working m));
    }

-- ---- what a read shows again

-- byte j is one of n bytes read from index i on
unfoldable pub is_read : Index → Count → Index → Bool
is_read i n j = both (leb i j) (ltb j (i + n))

-- of n bytes read from index i on, the flags that are on show again
unfoldable pub shown_again_image : Working → Index → Count → Image → Image
shown_again_image w i n x =
    each (λ k. is_read i n (on page11 (lasting_flag k))) (λ k y. with_flags (lasting_flag k) (on_lanes w k) y) lasting_count x

-- ---- lower 3.0

-- bit b of a flag byte counts, is 1, and its mask bit is 0
unfoldable pub is_unmasked : Image → FlagPair → Bit → Bool
is_unmasked x p b = both (has p.bits b) (both (eqb (digit x p.flag b) 1) (eqb (digit x p.mask b) 0))

unfoldable pub interrupts : Image → Bool
interrupts x = any_of flag_pairs (λ p. any_below 8 (λ b. is_unmasked x p b))

-- lower 3.0 is 0 exactly when an unmasked flag bit is 1
unfoldable pub settled_image : Image → Image
settled_image x = put x interrupt_bit (pick (interrupts x) 0 1)
