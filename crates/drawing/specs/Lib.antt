-- How a symmetric function is drawn as a diagram: for whoever draws one or trusts a drawing.
pub mod Pieces
pub mod Page
pub mod Reduced
pub mod Figures
pub mod Text
