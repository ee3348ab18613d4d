use mathlib.Core.Path.{◌≡◌, sym, ◌∙◌}
use mathlib.Core.Bool.{Bool, ◌&&◌}
use Prim.Native.Nat.{ℕ}
use lib.Dec.{eqb}
use borrow.Author.Tests.{eq-eqb, ne_eqb}
use Rattle.bits.specs.Choice.{pick, both, implies}
use Rattle.bits.proofs.Tests.{and_both}
use Rattle.model.specs.Pages.{page_start, find_page}
use Rattle.pages.proofs.page_start.Goals as goal

-- the test of a page that needs bank 0
in-bank : {t : Bool} (page number bank : ℕ) → (eqb page number && eqb bank 0) ≡ t → both (eqb page number) (eqb bank 0) ≡ t
in-bank page number bank e = sym (and_both (eqb page number) (eqb bank 0)) ∙ e

pub returns-then-page-eq0 : goal.returns-then-page-eq0
unfolding page_start find_page pick both implies
returns-then-page-eq0 c = rw (eq-eqb _ _ c.if-page-eq0.true)

pub returns-then-page-eq1 : goal.returns-then-page-eq1
unfolding page_start find_page pick both implies
returns-then-page-eq1 c = rw (ne_eqb _ _ c.if-page-eq0.false, eq-eqb _ _ c.if-page-eq1.true)

pub returns-then-page-eq2 : goal.returns-then-page-eq2
unfolding page_start find_page pick both implies
returns-then-page-eq2 c = rw (ne_eqb _ _ c.if-page-eq0.false, ne_eqb _ _ c.if-page-eq1.false, eq-eqb _ _ c.if-page-eq2.true)

pub returns-then-page-bank : goal.returns-then-page-bank
unfolding page_start find_page pick both implies
returns-then-page-bank c = let a = c.args in rw (ne_eqb _ _ c.if-page-eq0.false, ne_eqb _ _ c.if-page-eq1.false, ne_eqb _ _ c.if-page-eq2.false, in-bank a.page 16 a.bank c.if-page-bank.true)

pub returns-then-page-bank-2 : goal.returns-then-page-bank-2
unfolding page_start find_page pick both implies
returns-then-page-bank-2 c = let a = c.args in rw (ne_eqb _ _ c.if-page-eq0.false, ne_eqb _ _ c.if-page-eq1.false, ne_eqb _ _ c.if-page-eq2.false, in-bank a.page 16 a.bank c.if-page-bank.false, in-bank a.page 17 a.bank c.if-page-bank-2.true)

pub returns-then-page-bank-3 : goal.returns-then-page-bank-3
unfolding page_start find_page pick both implies
returns-then-page-bank-3 c = let a = c.args in rw (ne_eqb _ _ c.if-page-eq0.false, ne_eqb _ _ c.if-page-eq1.false, ne_eqb _ _ c.if-page-eq2.false, in-bank a.page 16 a.bank c.if-page-bank.false, in-bank a.page 17 a.bank c.if-page-bank-2.false, in-bank a.page 159 a.bank c.if-page-bank-3.true)

pub returns : goal.returns
unfolding page_start find_page pick both implies
returns c = let a = c.args in rw (ne_eqb _ _ c.if-page-eq0.false, ne_eqb _ _ c.if-page-eq1.false, ne_eqb _ _ c.if-page-eq2.false, in-bank a.page 16 a.bank c.if-page-bank.false, in-bank a.page 17 a.bank c.if-page-bank-2.false, in-bank a.page 159 a.bank c.if-page-bank-3.false)
