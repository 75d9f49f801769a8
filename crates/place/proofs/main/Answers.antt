-- What is printed is a part of the text, as the library counts it.
use Rattle.place.proofs.main.Goals as goal

pub slice_bounds-text-end : goal.slice_bounds-text-end
slice_bounds-text-end c = (c.place_page.ensures.counted _ c.in-Ok.is).0
