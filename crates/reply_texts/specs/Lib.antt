pub mod DroppedTexts
pub mod StepTexts
pub mod Texts
