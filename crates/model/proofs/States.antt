-- What a derived `==` decides: two states of a path, or of the module, are the same just where their codes are; two triggers and two staged sets, as the model says; an answer is Done just where its number is 0.
use denote.Enum.Bare.{sameb}
use denote.Enum.Declared.{tag_of}
use borrow.Author.Tests.{not-true, not-false}
use Rattle.std.proofs.Common.{◌≡◌, ℕ, Bool, true, false, not, eqb, refl, sym, ◌∙◌, ap}
use Rattle.model.specs.Hardware.{is_state}
use Rattle.model.specs.PathStates.{code_of}
use Rattle.model.specs.Sound.{same_trigger, same_set}
use Rattle.model.specs.Power.{module_code_of, is_module_state}
use Rattle.model.specs.Answers.{is_done}
use Rattle.model.specs.contracts.answer.Answer as answer
use Rattle.model.specs.contracts.lane.StagedSet as staged_set
use Rattle.model.specs.contracts.lane.Trigger as trigger
use Rattle.model.specs.contracts.path.PathState as path
use Rattle.model.specs.contracts.power.ModuleState as power
use Rattle.model.specs.declared.answer.Answer.{Answer}
use Rattle.model.specs.declared.answer.Answer.TheVariants.{Done, WrongLength, FlatMemory, Unsound, BadAccess, ShortBuffer, NothingOnLane, Busy, NoSuchTarget, Malformed, BackToFront}
use Rattle.model.specs.declared.lane.StagedSet.{StagedSet}
use Rattle.model.specs.declared.lane.StagedSet.TheVariants.{Set0, Set1}
use Rattle.model.specs.declared.lane.Trigger.{Trigger}
use Rattle.model.specs.declared.lane.Trigger.TheVariants.{DpInit, Immediate}
use Rattle.model.specs.declared.path.PathState.{PathState}
use Rattle.model.specs.declared.path.PathState.TheVariants.{Reserved, Deactivated, Init, Deinit, Activated, TxTurnOn, TxTurnOff, Initialized}
use Rattle.model.specs.declared.power.ModuleState.{ModuleState}
use Rattle.model.specs.declared.power.ModuleState.TheVariants.{Other, LowPwr, PwrUp, Ready, PwrDn}

-- the place of a state in its enum is its code
path_tag : (a : PathState) → tag_of path.the_type a ≡ code_of a
path_tag Reserved = refl
path_tag Deactivated = refl
path_tag Init = refl
path_tag Deinit = refl
path_tag Activated = refl
path_tag TxTurnOn = refl
path_tag TxTurnOff = refl
path_tag Initialized = refl

module_tag : (a : ModuleState) → tag_of power.the_type a ≡ module_code_of a
module_tag Other = refl
module_tag LowPwr = refl
module_tag PwrUp = refl
module_tag Ready = refl
module_tag PwrDn = refl

pub path_state_is : (a b : PathState) → sameb path.the_type a b ≡ is_state a b
unfolding is_state
path_state_is a b = ap (λ n. eqb n (tag_of path.the_type b)) (path_tag a) ∙ ap (eqb (code_of a)) (path_tag b)

pub module_state_is : (a b : ModuleState) → sameb power.the_type a b ≡ is_module_state a b
unfolding is_module_state
module_state_is a b = ap (λ n. eqb n (tag_of power.the_type b)) (module_tag a) ∙ ap (eqb (module_code_of a)) (module_tag b)

pub trigger_is : (a b : Trigger) → sameb trigger.the_type a b ≡ same_trigger a b
unfolding same_trigger
trigger_is DpInit DpInit = refl
trigger_is DpInit Immediate = refl
trigger_is Immediate DpInit = refl
trigger_is Immediate Immediate = refl

pub staged_set_is : (a b : StagedSet) → sameb staged_set.the_type a b ≡ same_set a b
unfolding same_set
staged_set_is Set0 Set0 = refl
staged_set_is Set0 Set1 = refl
staged_set_is Set1 Set0 = refl
staged_set_is Set1 Set1 = refl

pub answer_done : (a : Answer) → sameb answer.the_type a Done ≡ is_done a
unfolding is_done
answer_done Done = refl
answer_done WrongLength = refl
answer_done FlatMemory = refl
answer_done Unsound = refl
answer_done BadAccess = refl
answer_done ShortBuffer = refl
answer_done NothingOnLane = refl
answer_done Busy = refl
answer_done NoSuchTarget = refl
answer_done Malformed = refl
answer_done BackToFront = refl

-- whether an answer is a refusal, by the derived comparison with Done
pub not_done : (a b : Answer) (t : Bool) → a ≡ b → t ≡ not (sameb answer.the_type a Done) → t ≡ true → is_done b ≡ false
not_done a b t e p h = not-true _ (ap not (sym (answer_done b)) ∙ ap (λ x. not (sameb answer.the_type x Done)) (sym e) ∙ sym p ∙ h)

pub is_done_lem : (a b : Answer) (t : Bool) → a ≡ b → t ≡ not (sameb answer.the_type a Done) → t ≡ false → is_done b ≡ true
is_done_lem a b t e p h = not-false _ (ap not (sym (answer_done b)) ∙ ap (λ x. not (sameb answer.the_type x Done)) (sym e) ∙ sym p ∙ h)
