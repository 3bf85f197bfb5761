pub mod Order
pub mod Box
pub mod StepBox
