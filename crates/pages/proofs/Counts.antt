-- The counts of the head that is read are those of the page's head.
use Rattle.std.proofs.Common.{◌≡◌, ap, List, ℕ}
use Rattle.frames.specs.declared.Head.{Head}
use Rattle.frames.specs.Pages.{head_of, head_vertices, head_edges, head_zones}

pub counts_of : (page : List ℕ) (head : Head) → head ≡ head_of page
    → (head.vertices ≡ head_vertices page) × ((head.edges ≡ head_edges page) × (head.zones ≡ head_zones page))
counts_of page head e = (ap (λ (h : Head). h.vertices) e, (ap (λ (h : Head). h.edges) e, ap (λ (h : Head). h.zones) e))
