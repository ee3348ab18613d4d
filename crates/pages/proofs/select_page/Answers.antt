use Rattle.model.specs.Pages.{selected_image}
use Rattle.pages.proofs.select_page.Goals as goal

pub returns-in-None : goal.returns-in-None
unfolding selected_image
returns-in-None c = rw (← c.page_start.ensures, c.in-None.is)

pub returns-in-Some : goal.returns-in-Some
unfolding selected_image
returns-in-Some c = rw (← c.page_start.ensures, c.in-Some.is)
